use Rattle.std.proofs.Common.{◌≡◌, eqb, subst, sym, ap, ◌∙◌}
use Rattle.std.specs.Prelude.{◌==◌}
use Rattle.std.specs.List.{dedup}
use Rattle.std.specs.List.Sorted.{IsStrictlyIncreasing}
use Rattle.std.proofs.lemmas.List.Filters.{dedup_is}
use Rattle.std.proofs.lemmas.List.Sorted.{list_any-IsPermutation}
use Rattle.std.proofs.lemmas.Map.Keys.{IsStrictlyIncreasing-dedup}
use Rattle.kinds.specs.Tagged.{is_one}
use Rattle.kinds.proofs.Deduped.{any-dedup}
use Rattle.kinds.proofs.Numbers.{eq_true}
use Rattle.kinds.proofs.tagged.rising_numbers.Goals as goal

pub returns-clause-rising : goal.returns-clause-rising
returns-clause-rising c =
    let sorted = c.sort_unstable.new.self.items in
    let is : c.dedup.new.self.items ≡ dedup eqb sorted = dedup_is eqb sorted _ c.dedup.ensures.filtered in
    subst IsStrictlyIncreasing (sym is) (IsStrictlyIncreasing-dedup sorted c.sort_unstable.ensures.sorted)

pub returns-clause-same : goal.returns-clause-same
returns-clause-same c n =
    let sorted = c.sort_unstable.new.self.items in
    let is : c.dedup.new.self.items ≡ dedup eqb sorted = dedup_is eqb sorted _ c.dedup.ensures.filtered in
    ap (is_one n) is ∙ any-dedup eqb eq_true (λ m. m == n) sorted ∙ sym (list_any-IsPermutation (λ m. m == n) _ _ c.sort_unstable.ensures.permutation)
