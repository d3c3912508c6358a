use Rattle.std.proofs.Common.{◌≡◌, take}
use Rattle.acl_tree.proofs.region.copies.Given as goal

abbrev pub invariant-loop-path : goal.invariant-loop-path
invariant-loop-path l = l.all.items ≡ take l.path-index l.paths
