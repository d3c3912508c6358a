use Rattle.std.proofs.Common.{get_or, None, [], Ok, sym, ap, subst, ◌∙◌}
use Rattle.std.proofs.lemmas.Result.{on_ok_weaker}
use Rattle.acl_entry.specs.Lists.{map_of}
use Rattle.acl_text.specs.Records.{record_with}
use Rattle.acl_text.specs.KnownBodies.{IsKnown}
use Rattle.acl_text.proofs.SameBodies.{closed_as}
use Rattle.acl_text.proofs.KnownBodies.{known_more, reads_to}
use Rattle.acl_text.proofs.known.read_lines.Goals as goal

pub returns-in-Some-clause-read : goal.returns-in-Some-clause-read
returns-in-Some-clause-read g c =
    let naming = g.N.Names.naming c.args.reading.now.names.now in
    let k = c.in-Some.known in
    let is = c.requires.known k c.in-Some.ensures.0 in
    let other = record_with c.args.draft (map_of []) None in
    let records = c.args.records.now.items in
    reads_to naming c.args.reading.now.dump_use records c.push_like.new.records.items c.args.draft c.args.text.now k.body.bytes.now c.in-Some.after.now k.body.lines
    c.in-Some.ensures.1.0 is.body c.in-Some.ensures.1.1
    (λ from.
    closed_as naming c.args.reading.now.dump_use c.args.draft (get_or records k.place other) from k.body.bytes.now records c.requires.opened (is.says other)
    ∙ ap (λ rs. Ok rs) (sym (c.in_ok-push_like.ensures other)))

pub returns-in-Some-clause-known : goal.returns-in-Some-clause-known
returns-in-Some-clause-known g c k among =
    let naming = g.N.Names.naming c.args.reading.now.names.now in
    subst (λ rs. IsKnown naming c.args.reading.now.dump_use rs k) (sym (c.in_ok-push_like.ensures (record_with c.args.draft (map_of []) None)))
    (known_more naming c.args.reading.now.dump_use c.args.records.now.items _ k (c.requires.known k (record { at = among.at; there = among.there })))

pub read_body-requires-clause-known : goal.read_body-requires-clause-known
read_body-requires-clause-known g c k among = c.requires.known k (c.is_next_looked_for.ensures k among)

pub returns-in-Some-first_body-clause-read : goal.returns-in-Some-first_body-clause-read
returns-in-Some-first_body-clause-read g c =
    let cut = c.in-Some-first_body.ensures in
    let body = c.in-Some-first_body.body in
    reads_to (g.N.Names.naming c.args.reading.now.names.now) c.args.reading.now.dump_use c.args.records.now.items c.read_body.new.records.items c.args.draft c.args.text.now
    body.bytes.now c.in-Some-first_body.after.now body.lines cut.parts cut.lines cut.ends c.in_ok-read_body.ensures.closed

pub returns-clause-known : goal.returns-clause-known
returns-clause-known g c =
    let naming = g.N.Names.naming c.args.reading.now.names.now in
    on_ok_weaker c.read_alone.result
    (λ more k among.
    subst (λ rs. IsKnown naming c.args.reading.now.dump_use rs k) (sym more.1)
    (known_more naming c.args.reading.now.dump_use c.args.records.now.items more.0 k (c.requires.known k (c.is_next_looked_for.ensures k among))))
    c.read_alone.ensures.more
