use Rattle.std.proofs.Common.{◌≡◌, ◌++◌, map, take}
use Rattle.kinds.proofs.pairs.part.share_all.Given as goal

abbrev pub invariant-loop-part : goal.invariant-loop-part
invariant-loop-part g l = map (λ r. r.value) l.new.items ≡ map (λ r. r.value) l.fn.new.items ++ map (λ r. r.value) (take l.part-index l.parts)
