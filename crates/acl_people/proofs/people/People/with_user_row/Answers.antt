use Rattle.std.proofs.Common.{◌≡◌, List, ◌∷◌, ◌++◌, [], map, sym, ap, ◌∙◌}
use Rattle.std.proofs.lemmas.List.{map_push}
use Rattle.acl_text.specs.declared.rows.GroupRow.{GroupRow}
use Rattle.acl_people.specs.KnownPeople.{person, persons}
use Rattle.acl_people.proofs.people.People.with_user_row.Goals as goal

pub invariant_of-result : goal.invariant_of-result
invariant_of-result c =
    let groups = c.self.inside.groups.value in
    let users = c.self.inside.users.value in
    let old : c.all_subjects.result.now ≡ map (person groups) users = c.all_subjects.ensures ∙ ap persons (sym c.self.view_is) in
    let one : c.in_ok-subject.subject.value ≡ person groups c.args.row = c.in_ok-subject.ensures ∙ ap (λ (gs : List GroupRow). person gs c.args.row) c.deref.ensures in
    let now_users : c.in_ok-new.field-0.value ≡ users ++ c.args.row ∷ [] = c.in_ok-new.ensures.ok ∙ c.in_ok-with_row.ensures ∙ ap (λ us. us ++ c.args.row ∷ []) c.deref-2.ensures in
    c.in_ok-subjects.ensures
    ∙ (λ i. old i ++ one i ∷ [])
    ∙ sym (map_push (person groups) users c.args.row)
    ∙ (λ i. map (person (sym c.in_ok-clone.ensures.cases i)) (sym now_users i))
