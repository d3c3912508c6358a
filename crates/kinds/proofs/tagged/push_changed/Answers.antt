use Rattle.std.proofs.Common.{◌≡◌, ◌++◌, sym, ap, ◌∙◌}
use Rattle.std.specs.Cmp.Lexicographic.{same_text}
use Rattle.kinds.specs.PairSets.{tagged_pairs}
use Rattle.kinds.proofs.Tags.{settled_same, settled_more}
use Rattle.kinds.proofs.tagged.push_changed.Goals as goal

pub returns-then-eq : goal.returns-then-eq
returns-then-eq g c done s =
    let same : c.in_ok-old_tags.old_tags.items ≡ c.in_ok-new_tags.new_tags.items =
    sym c.as_slice.ensures.value ∙ same_text c.as_slice.result.now c.as_slice-2.result.now (sym c.if-eq.true ∙ c.eq.ensures) ∙ c.as_slice-2.ensures.value in
    settled_same g.N.Tagged.tags_of c.args.before.now.0 c.args.after.now.0 done c.args.number c.args.gone.now.items c.args.new.now.items
    (sym c.in_ok-old_tags.ensures ∙ same ∙ c.in_ok-new_tags.ensures) s

pub returns : goal.returns
returns g c done s =
    settled_more g.N.Tagged.tags_of c.args.before.now.0 c.args.after.now.0 done c.args.number c.args.gone.now.items c.args.new.now.items c.push_pairs.new.pairs.items c.push_pairs-2.new.pairs.items
    (c.in_ok-push_pairs.ensures ∙ ap (λ ts. c.args.gone.now.items ++ tagged_pairs ts c.args.number) (c.deref.ensures.value ∙ c.in_ok-old_tags.ensures))
    (c.in_ok-push_pairs-2.ensures ∙ ap (λ ts. c.args.new.now.items ++ tagged_pairs ts c.args.number) (c.deref-2.ensures.value ∙ c.in_ok-new_tags.ensures))
    s
