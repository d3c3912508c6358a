use Rattle.std.proofs.Common.{◌≡◌, None}
use Rattle.std.specs.List.{All}
use Rattle.acl_text.proofs.bodies.Bodies.new.Given as goal

abbrev pub invariant-loop : goal.invariant-loop
invariant-loop l = All (λ k. k ≡ None) l.kept.items
