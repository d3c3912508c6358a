use Rattle.std.proofs.Common.{◌≡◌, [], ◌++◌, length, flat_map, sym, ap, subst, ◌∙◌, arith}
use Rattle.std.proofs.lemmas.Grind.{common_steps}
use Rattle.std.proofs.lemmas.Result.{IfOk-weaker}
use Rattle.kinds.specs.PairSets.{AreRising}
use Rattle.kinds.specs.PairParts.{changed}
use Rattle.kinds.proofs.PairChanges.{changed_rising}
use Rattle.kinds.proofs.PairHalves.{no_part}
use Rattle.kinds.proofs.pairs.set.PairSet.changed.Goals as goal

pub from_sorted-requires : goal.from_sorted-requires
from_sorted-requires c = subst AreRising (sym (c.deref.ensures.value ∙ c.in_ok-pairs.ensures)) (changed_rising c.args.changes.now [] c.requires tt)

pub returns-then-is_empty : goal.returns-then-is_empty
returns-then-is_empty c =
    let none : length c.tops-tops.result.now ≡ 0 = grind (arith, common_steps) in
    IfOk-weaker c.from_sorted.result _ _ (λ set is. is ∙ c.deref.ensures.value ∙ c.in_ok-pairs.ensures
    ∙ ap (changed c.args.changes.now) (sym (no_part (λ b. b.value) c.tops-tops.result.now none) ∙ c.tops-tops.ensures.all)) c.from_sorted.ensures

pub invariant_of-result : goal.invariant_of-result
invariant_of-result c =
    subst AreRising
    (sym (c.in_ok-push_changed_in.ensures
    ∙ ap (λ l. flat_map (λ b. b.value) l ++ changed c.args.changes.now (flat_map (λ b. b.value) c.tops-tops.result.now)) c.in_ok-new.ensures.items
    ∙ ap (changed c.args.changes.now) c.tops-tops.ensures.all))
    (changed_rising c.args.changes.now c.args.self.now c.requires c.tops-tops.ensures.rising)
