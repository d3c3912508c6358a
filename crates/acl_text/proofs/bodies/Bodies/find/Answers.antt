use Rattle.std.proofs.Common.{◌≡◌, Bool, true, false, Some, refl, length, sym, ap, ◌∙◌}
use Rattle.std.specs.Prelude.{not, slice_get}
use Rattle.std.proofs.lemmas.Option.{slice_get_read}
use Rattle.std.proofs.lemmas.Bool.Decides.{Decides-eqb}
use Rattle.std.proofs.lemmas.Slice.Eq.{slice_eq-Decides}
use Rattle.acl_text.proofs.bodies.Bodies.find.Goals as goal

are_same : (b : Bool) → false ≡ not b → true ≡ b
are_same true e = refl
are_same false e = absurd cc

pub returns-clause-known : goal.returns-clause-known
returns-clause-known c = (
  record {
    at = c.place_of-at.result;
    there =
        let h = c.in-Some-Some.ensures.lookup in
        sym (ap (λ xs. slice_get xs c.place_of-at.result) c.deref.ensures.value)
        ∙ (slice_get_read c.deref.result.now (length c.deref.result.now) c.place_of-at.result c.in-Some-Some.field-0.now refl h.3.0 h.1
        ∙ ap (λ k. Some k) c.in-Some-Some.field-0-is);
  },
  (slice_eq-Decides Decides-eqb c.in-Some-Some.known.body.bytes.now c.args.bytes.now true (are_same _ c.if-ne.ensures)).0 refl,
)
