use Rattle.std.proofs.Common.{◌≡◌, map, take}
use Rattle.kinds.proofs.pairs.pair.changes_of.Given as goal

abbrev pub invariant-loop-pair : goal.invariant-loop-pair
invariant-loop-pair l = l.changes.items ≡ map (λ p. record { pair = p; is_put = l.is_put }) (take l.pair-index l.pairs)
