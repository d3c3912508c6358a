use Rattle.std.proofs.Common.{◌≡◌, take}
use Rattle.facl_answers.specs.Inner.{ways}
use Rattle.facl_answers.proofs.why.asked_paths.Given as goal

abbrev pub invariant-loop-path : goal.invariant-loop-path
invariant-loop-path l = l.all.items ≡ ways (take l.path-index l.path-items) l.tree.files
