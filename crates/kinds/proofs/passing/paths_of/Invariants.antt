use Rattle.std.proofs.Common.{◌≡◌, ◌++◌, map, length, get_or, false}
use Rattle.std.specs.Prelude.{filter}
use Rattle.kinds.proofs.passing.paths_of.Given as goal

abbrev pub invariant-loop-entry : goal.invariant-loop-entry
invariant-loop-entry l =
    map (λ p. p.now) l.paths.items ++ map (λ e. e.0) (filter (λ e. get_or l.table e.1 false) l.rest) ≡ map (λ e. e.0) (filter (λ e. get_or l.table e.1 false) l.numbers)

abbrev pub decreases-loop-entry : goal.decreases-loop-entry
decreases-loop-entry l = length l.rest
