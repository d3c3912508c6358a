use Rattle.std.proofs.Common.{◌≡◌, ◌++◌, length}
use Rattle.std.specs.Prelude.{map}
use Rattle.acl_text.proofs.seen.components_of.Given as goal

abbrev pub invariant-loop-component : goal.invariant-loop-component
invariant-loop-component l = map (λ v. v.items) l.components.items ++ l.rest ≡ l.path

abbrev pub decreases-loop-component : goal.decreases-loop-component
decreases-loop-component l = length l.rest
