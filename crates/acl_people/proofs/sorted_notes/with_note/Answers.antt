use Rattle.std.proofs.Common.{◌≡◌, ◌∷◌, ◌++◌, [], sym, ap, subst, ◌∙◌}
use Rattle.std.specs.List.{insert}
use Rattle.acl_people.specs.Kept.{AreSorted}
use Rattle.acl_people.proofs.NotesInOrder.{sorted_more}
use Rattle.acl_people.proofs.sorted_notes.with_note.Goals as goal

pub returns : goal.returns
returns c =
    let old = c.args.notes.now in
    let note = c.args.note in
    let end = c.end_of_id-end.result in
    let new : c.insert.new.self.items ≡ insert old end note =
    c.in_ok-insert.ensures.items ∙ ap (λ ns. insert ns end note) (c.in_ok-extend_from_slice.ensures.items ∙ ap (λ ns. ns ++ old) c.in_ok-more.ensures.items)
    in
    subst (λ ns. AreSorted (old ++ note ∷ []) ns) (sym new) (sorted_more old end note c.requires c.end_of_id-end.ensures.within c.end_of_id-end.ensures.end)
