use Rattle.std.proofs.Common.{◌≡◌, subst, sym, ap, ◌∙◌}
use Rattle.std.specs.List.{dedup}
use Rattle.std.proofs.lemmas.List.Filters.{dedup_is}
use Rattle.std.proofs.lemmas.List.Sorted.{list_any-IsPermutation}
use Rattle.kinds.specs.PairSets.{is_same, AreRising, has}
use Rattle.kinds.proofs.PairSorted.{rising-dedup, has-dedup}
use Rattle.kinds.proofs.pairs.pair.rising.Goals as goal

pub returns-clause-rising : goal.returns-clause-rising
returns-clause-rising c =
    let sorted = c.sort_unstable.new.self.items in
    let is : c.dedup.new.self.items ≡ dedup is_same sorted = dedup_is is_same sorted _ c.dedup.ensures.filtered in
    subst AreRising (sym is) (rising-dedup sorted c.sort_unstable.ensures.sorted)

pub returns-clause-same : goal.returns-clause-same
returns-clause-same c = λ p.
    let sorted = c.sort_unstable.new.self.items in
    let is : c.dedup.new.self.items ≡ dedup is_same sorted = dedup_is is_same sorted _ c.dedup.ensures.filtered in
    ap (has p) is ∙ has-dedup p sorted ∙ sym (list_any-IsPermutation (λ q. is_same q p) _ _ c.sort_unstable.ensures.permutation)
