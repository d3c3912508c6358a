use Rattle.std.proofs.Common.{sym, ap, subst, ◌∙◌}
use Rattle.kinds.specs.Numbered.{Numbers, AreSound}
use Rattle.path_classes.proofs.RenewedClasses.{still_sound, tags_still}
use Rattle.path_classes.proofs.renewed_searches.with_searches.Goals as goal

pub of-requires : goal.of-requires
of-requires c =
    subst (λ (ns : Numbers). AreSound c.args.classes ns) (sym (c.in_ok-share.ensures ∙ c.numbers-numbers.ensures.all))
    (still_sound c.args.before.now c.numbers-numbers.ensures.sound c.args.classes c.requires.counts c.requires.shapes)

pub with_same_tags-requires : goal.with_same_tags-requires
with_same_tags-requires c =
    tags_still c.args.before.now c.numbers-numbers.ensures.sound c.args.classes c.requires.counts c.requires.shapes c.in_ok-map.map
    (c.in_ok-map.ensures ∙ ap (λ (ns : Numbers). (c.args.classes, ns)) (c.in_ok-share.ensures ∙ c.numbers-numbers.ensures.all))

pub returns : goal.returns
returns c = c.in_ok-new.ensures ∙ c.in_ok-map.ensures ∙ ap (λ (ns : Numbers). (c.args.classes, ns)) (c.in_ok-share.ensures ∙ c.numbers-numbers.ensures.all)
