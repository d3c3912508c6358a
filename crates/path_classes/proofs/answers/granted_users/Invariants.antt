use Rattle.std.proofs.Common.{◌≡◌, ◌++◌, drop}
use Rattle.acl_entry.specs.Check.{has}
use Rattle.path_classes.specs.Rows.{places_from}
use Rattle.path_classes.proofs.answers.granted_users.Given as goal

abbrev pub invariant-loop-at : goal.invariant-loop-at
invariant-loop-at l = l.users.items ++ places_from (λ c. has c l.request) l.at (drop l.at l.cells) ≡ places_from (λ c. has c l.request) 0 l.cells
