use Rattle.std.proofs.Common.{◌≡◌, true, is_some, take}
use Rattle.std.specs.List.{AllByRecursion}
use Rattle.kinds.proofs.put.are_found.Given as goal

abbrev pub invariant-loop-one : goal.invariant-loop-one
invariant-loop-one l = AllByRecursion (λ o. is_some o ≡ true) (take l.one-index l.found)
