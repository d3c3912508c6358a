use Rattle.std.proofs.Common.{◌≡◌, map, take}
use Rattle.facl_tests.specs.Verdicts.{owner_alone}
use Rattle.facl_tests.proofs.judges.owners_at_once.Given as goal

-- the users before this place have theirs
abbrev pub invariant-loop-at : goal.invariant-loop-at
invariant-loop-at l = take l.at l.row ≡ map (λ u. owner_alone u l.label) (map (λ s. s.value) (take l.at l.user-items))
