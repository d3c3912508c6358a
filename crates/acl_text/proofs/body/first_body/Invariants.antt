use Rattle.std.proofs.Common.{◌≡◌, List, ℕ, ◌++◌, length}
use Rattle.acl_text.specs.SameBodies.{IsBody}
use Rattle.acl_text.proofs.body.first_body.Given as goal

abbrev pub invariant-loop-rest : goal.invariant-loop-rest
invariant-loop-rest l = record { front : List ℕ; parts : l.text ≡ front ++ l.rest; body : IsBody front l.lines }

abbrev pub decreases-loop-rest : goal.decreases-loop-rest
decreases-loop-rest l = length l.rest
