use Rattle.std.proofs.Common.{◌≡◌, take}
use Rattle.facl_tools.proofs.tested.copies_of.Given as goal

abbrev pub invariant-loop-path : goal.invariant-loop-path
invariant-loop-path l = l.copies.items ≡ take l.path-index l.paths
