use Rattle.std.proofs.Common.{◌++◌, ◌∷◌, [], map, take, sym, ap, ◌∙◌}
use Rattle.std.proofs.lemmas.List.{map_push}
use Rattle.acl_people.specs.Changes.{name_removed}
use Rattle.acl_people.proofs.Pointers.{map_take_more}
use Rattle.acl_people.proofs.groups.rows_without.Goals as goal

pub loop-row-preserved : goal.loop-row-preserved
loop-row-preserved c =
    let changed = name_removed c.args.name.now in
    let row = c.row-item.result.value in
    let before = take c.loop-row.row-index (map (λ r. r.value) c.args.rows.now) in
    let more = map_take_more (λ r. r.value) c.args.rows.now c.loop-row.row-index c.row-item.result c.loop-row-test.true c.row-item.is in
    c.in_ok-push_without.ensures
    ∙ ap (λ rows. rows ++ changed row ∷ []) c.loop-row.invariant
    ∙ sym (map_push changed before row)
    ∙ ap (λ rows. map changed rows) (sym more)
