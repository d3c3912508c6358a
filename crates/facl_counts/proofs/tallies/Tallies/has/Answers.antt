use Rattle.std.proofs.Common.{◌≡◌, Some, length, subst, sym, ap, ◌∙◌}
use Rattle.std.specs.Prelude.{slice_get}
use Rattle.std.proofs.lemmas.Bool.{ltb-true}
use Rattle.std.proofs.lemmas.Option.{slice_get-get_or}
use Rattle.facl_counts.specs.Counting.{HasKey}
use Rattle.facl_counts.proofs.Tallying.{has_key}
use Rattle.facl_counts.proofs.tallies.Tallies.has.Goals as goal

pub returns-then-same_place : goal.returns-then-same_place
returns-then-same_place c = λ found.
    let looked = c.in-Some.ensures.lookup in
    let here : slice_get c.self.inside.list.items c.args.at ≡ Some c.in-Some.tally.now =
    ap (λ l. slice_get l c.args.at) (sym c.deref.ensures.value)
    ∙ slice_get-get_or c.deref.result.now c.args.at c.in-Some.tally.now (ltb-true c.args.at (length c.deref.result.now) (sym looked.0)) ∙ ap Some (sym looked.1)
    in
    subst (λ ts. HasKey ts c.args.at c.args.key) c.self.view_is
    (has_key c.self.inside.list.items c.args.at c.in-Some.tally.now c.args.key here (sym c.same_place.ensures ∙ c.if-same_place.true) (sym c.same_place-then-same_place.ensures ∙ found))
