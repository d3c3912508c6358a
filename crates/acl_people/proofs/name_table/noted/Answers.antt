use Rattle.std.proofs.Common.{◌≡◌, ◌++◌, ◌∷◌, [], true, false, cond, sym, subst, ◌∙◌}
use Rattle.std.proofs.lemmas.Result.{IfOk-weaker}
use Rattle.acl_people.specs.Kept.{has_note, AreSorted}
use Rattle.acl_people.proofs.NotesInOrder.{sorted_same}
use Rattle.acl_people.proofs.name_table.noted.Goals as goal

pub returns-then-has_note : goal.returns-then-has_note
returns-then-has_note c =
    let old = c.args.notes.now in
    let note = c.args.note in
    let has : has_note c.args.digits (c.args.name.now, note.id) ≡ true = sym c.has_note.ensures ∙ c.if-has_note.true in
    IfOk-weaker c.with_note.result (λ new. AreSorted (old ++ note ∷ []) new.items) (λ new. AreSorted (old ++ cond (has_note c.args.digits (c.args.name.now, note.id)) (note ∷ []) []) new.items)
    (λ new are. subst (λ b. AreSorted (old ++ cond b (note ∷ []) []) new.items) (sym has) are)
    c.with_note.ensures

pub returns : goal.returns
returns c =
    let old = c.args.notes.now in
    let note = c.args.note in
    let none : has_note c.args.digits (c.args.name.now, note.id) ≡ false = sym c.has_note.ensures ∙ c.if-has_note.false in
    subst (λ b. AreSorted (old ++ cond b (note ∷ []) []) c.in_ok-copy.copy.items) (sym none) (sorted_same old c.in_ok-copy.copy.items c.requires c.in_ok-copy.ensures.items)
