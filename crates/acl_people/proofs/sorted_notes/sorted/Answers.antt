use Rattle.std.proofs.Common.{rules, of_calls}
use Rattle.std.proofs.lemmas.List.Sorted.{answers_always}
use Rattle.acl_people.specs.declared.places_by_id.Note.{Note}
use Rattle.acl_people.proofs.NotesInOrder.{sorted_notes}
use Rattle.acl_people.proofs.sorted_notes.sorted.Goals as goal

pub returns : goal.returns
returns c =
    let key = λ (n : Note). n.id in
    let answers = answers_always _ _ _ (λ f a r g called. search (rules, of_calls)) in
    sorted_notes c.args.notes.items c.sort_by_key.new.self.items (c.in_ok-sort_by_key.ensures.sorted key answers) (c.sort_by_key.ensures.stable key answers)
