use Rattle.std.proofs.Common.{◌≡◌, cond, ap, sym, subst, ◌∙◌}
use Rattle.kinds.specs.PairSets.{has, AreRising, pairs_named}
use Rattle.kinds.specs.PairParts.{changed}
use Rattle.kinds.proofs.PairChanges.{each_changed, changed_has, named_each, there_each}
use Rattle.kinds.proofs.pairs.set.PairSet.with_pairs.Goals as goal

pub changed-requires : goal.changed-requires
changed-requires c =
    let pairs = c.rising-pairs.result.items in
    let is : c.deref-2.result.now ≡ each_changed c.args.is_put pairs = c.deref-2.ensures.value ∙ c.in_ok-changes.ensures ∙ ap (each_changed c.args.is_put) c.deref.ensures.value in
    subst AreRising (sym (ap pairs_named is ∙ named_each c.args.is_put pairs)) c.rising-pairs.ensures.rising

pub returns : goal.returns
returns c p =
    let pairs = c.rising-pairs.result.items in
    let is : c.deref-2.result.now ≡ each_changed c.args.is_put pairs = c.deref-2.ensures.value ∙ c.in_ok-changes.ensures ∙ ap (each_changed c.args.is_put) c.deref.ensures.value in
    ap (has p) (c.in_ok-set.ensures ∙ ap (λ cs. changed cs c.args.self.now) is)
    ∙ changed_has p (each_changed c.args.is_put pairs) c.args.self.now (subst AreRising (sym (named_each c.args.is_put pairs)) c.rising-pairs.ensures.rising)
    ∙ there_each c.args.is_put p pairs (has p c.args.self.now)
    ∙ ap (λ b. cond b c.args.is_put (has p c.args.self.now)) (c.rising-pairs.ensures.same p)
