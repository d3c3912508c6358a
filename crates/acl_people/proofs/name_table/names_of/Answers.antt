use Rattle.std.proofs.Common.{◌≡◌, ◌++◌, ◌∷◌, [], length, map, position, sym, ap, ◌∙◌, arith}
use Rattle.std.proofs.lemmas.List.{length-map, get_or-map, take-map}
use Rattle.acl_people.specs.NameTables.{is_name}
use Rattle.acl_people.specs.Kept.{named_in}
use Rattle.acl_people.proofs.NamedRows.{named_more, fresh}
use Rattle.acl_people.proofs.name_table.names_of.Goals as goal

pub add-requires : goal.add-requires
add-requires g c =
    let named = g.R.NamedRow.named in
    let rows = c.args.rows.now in
    let i = c.loop-row.row-index in
    let row = c.row-item.result in
    let as_long : length (map named rows) ≡ length rows = length-map rows named in
    ap (λ name. position (is_name name) (named_in c.loop-row.names.entries)) c.name.ensures
    ∙ ap (λ es. position (is_name (named row).0) es) (c.loop-row.invariant ∙ sym (take-map named i rows))
    ∙ fresh (map named rows) i (named row) c.requires (omega (arith, c.loop-row-test.true))
    (get_or-map named rows i row (named row) c.loop-row-test.true ∙ ap named (sym c.row-item.is))

pub loop-row-preserved : goal.loop-row-preserved
loop-row-preserved g c =
    c.in_ok-add.ensures
    ∙ (λ j. c.loop-row.invariant j ++ (c.name.ensures j, c.id.ensures j) ∷ [])
    ∙ named_more g.R.NamedRow.named c.args.rows.now c.loop-row.row-index c.row-item.result c.loop-row-test.true c.row-item.is
