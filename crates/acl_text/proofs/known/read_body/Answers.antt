use Rattle.std.proofs.Common.{get_or, None, [], ◌∷◌, ◌++◌, Ok, sym, ap, subst, ◌∙◌, inl, inr}
use Rattle.acl_entry.specs.Lists.{map_of}
use Rattle.acl_text.specs.Records.{record_with}
use Rattle.acl_text.specs.SameBodies.{closed}
use Rattle.acl_text.specs.KnownBodies.{IsKnown}
use Rattle.acl_text.proofs.SameBodies.{closed_as}
use Rattle.acl_text.proofs.KnownBodies.{known_more, known_last}
use Rattle.acl_text.proofs.known.read_body.Goals as goal

pub returns-in-Some-clause-closed : goal.returns-in-Some-clause-closed
returns-in-Some-clause-closed g c from =
    let naming = g.N.Names.naming c.args.reading.now.names.now in
    let k = c.in-Some.known in
    let found = c.in-Some.ensures.known in
    let other = record_with c.args.draft (map_of []) None in
    let records = c.args.records.now.items in
    ap (λ body. closed naming c.args.reading.now.dump_use records c.args.draft from body) (sym found.1)
    ∙ (closed_as naming c.args.reading.now.dump_use c.args.draft (get_or records k.place other) from k.body.bytes.now records c.requires.opened ((c.requires.known k found.0).says other)
    ∙ ap (λ rs. Ok rs) (sym (c.in_ok-push_like.ensures other)))

pub returns-in-Some-clause-known : goal.returns-in-Some-clause-known
returns-in-Some-clause-known g c k among =
    let naming = g.N.Names.naming c.args.reading.now.names.now in
    let other = record_with c.args.draft (map_of []) None in
    let records = c.args.records.now.items in
    subst (λ rs. IsKnown naming c.args.reading.now.dump_use rs k) (sym (c.in_ok-push_like.ensures other))
    (known_more naming c.args.reading.now.dump_use records _ k (c.requires.known k (c.find.ensures.same k among)))

pub returns-clause-known : goal.returns-clause-known
returns-clause-known g c k among =
    let naming = g.N.Names.naming c.args.reading.now.names.now in
    let records = c.args.records.now.items in
    let r = c.in_ok-record.record in
    elim (c.keep.ensures k among) [
      | inl old ↦
          subst (λ rs. IsKnown naming c.args.reading.now.dump_use rs k) (sym c.in_ok-push.ensures.items)
          (known_more naming c.args.reading.now.dump_use records (r ∷ []) k (c.requires.known k (c.find.ensures.same k old)))
      | inr is ↦
          subst (λ rs. IsKnown naming c.args.reading.now.dump_use rs k) (sym c.in_ok-push.ensures.items)
          (subst (λ k. IsKnown naming c.args.reading.now.dump_use (records ++ r ∷ []) k) (sym is)
          (known_last naming c.args.reading.now.dump_use records r (record { body = c.args.body; mark = c.mark_of-mark.result; place = c.len-place.result })
          (c.len-place.ensures ∙ c.args.records.now.ok.0) c.requires.body c.in_ok-record.ensures.0))
    ]
