use Rattle.std.proofs.Common.{◌++◌, ◌∷◌, [], cond, ◌∙◌}
use Rattle.acl_people.specs.Kept.{has_note}
use Rattle.acl_people.proofs.NotesOfNames.{noted_row}
use Rattle.acl_people.proofs.name_table.notes_of.Goals as goal

pub loop-place-preserved : goal.loop-place-preserved
loop-place-preserved g c =
    c.in_ok-push_note.ensures
    ∙ (λ j. c.loop-place.invariant j ++ cond (has_note c.args.digits (c.name.ensures j, c.id.ensures j)) (record { id = c.id.ensures j; place = c.loop-place.place } ∷ []) [])
    ∙ noted_row g.R.NamedRow.named c.args.digits c.args.rows.now c.loop-place.place c.index-rows-place.result c.loop-place-test.true c.index-rows-place.is
