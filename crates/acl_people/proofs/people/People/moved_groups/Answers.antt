use Rattle.std.proofs.Common.{◌≡◌, ℕ, List, length, slice_get, Some, ap, sym, subst, ◌∙◌, arith}
use Rattle.std.proofs.lemmas.Option.{slice_get_within}
use Rattle.std.proofs.lemmas.List.{length-map}
use Rattle.acl_entry.specs.Person.{Person}
use Rattle.acl_people.specs.KnownPeople.{persons}
use Rattle.acl_entry.specs.GroupsOfOne.{AreMoved}
use Rattle.acl_people.proofs.Moving.{slice_get-set_same}
use Rattle.acl_people.proofs.Rising.{moved_ids}
use Rattle.acl_people.proofs.Moved.{subject_is, none_moved}
use Rattle.acl_people.proofs.people.People.moved_groups.Goals as goal
use Rattle.acl_people.proofs.people.People.moved_groups.Goals.{In_ok-groups}

moved : (c : In_ok-groups) → AreMoved c.requires.before c.requires.after c.in_ok-groups.groups.items
moved c =
    let old = persons c.args.self.now in
    let new = persons c.args.next.now in
    let at : slice_get new c.args.user ≡ Some c.requires.after = ap (λ ps. slice_get ps c.args.user) c.requires.becomes
    ∙ slice_get-set_same old c.args.user c.requires.before c.requires.after c.requires.was in
    let before : c.deref.result.now ≡ c.requires.before = c.deref.ensures
    ∙ subject_is (λ s. s.value) c.subjects.result.now old c.args.user c.index-subjects-user.result c.requires.before c.subjects.ensures c.requires.was c.index-subjects-user.is in
    let after : c.deref-2.result.now ≡ c.requires.after = c.deref-2.ensures
    ∙ subject_is (λ s. s.value) c.subjects-2.result.now new c.args.user c.index-subjects-user-2.result c.requires.after c.subjects-2.ensures at c.index-subjects-user-2.is in
    subst (λ (p : Person). AreMoved c.requires.before p c.in_ok-groups.groups.items) after
    (subst (λ (p : Person). AreMoved p c.deref-2.result.now c.in_ok-groups.groups.items) before c.in_ok-groups.ensures)

pub returns : goal.returns
returns c =
    let old = persons c.args.self.now in
    let at : slice_get (persons c.args.next.now) c.args.user ≡ Some c.requires.after = ap (λ ps. slice_get ps c.args.user) c.requires.becomes
    ∙ slice_get-set_same old c.args.user c.requires.before c.requires.after c.requires.was in
    record {
      moved = record { change = c.requires; moved = moved c };
      ids = moved_ids c.args.self.now c.args.next.now c.args.user c.requires.before c.requires.after c.in_ok-groups.groups.items c.requires.was at (moved c);
      none = λ none. none_moved (persons c.args.self.now) (persons c.args.next.now) c.args.user c.requires (subst (λ (ids : List ℕ). AreMoved c.requires.before c.requires.after ids) none (moved c));
    }

pub bounds-subjects-user : goal.bounds-subjects-user
bounds-subjects-user c =
    let long = sym (length-map c.subjects.result.now (λ s. s.value)) ∙ ap length c.subjects.ensures in
    let within = slice_get_within (persons c.args.self.now) c.args.user c.requires.before c.requires.was in
    omega (arith, long, within)

pub bounds-subjects-user-2 : goal.bounds-subjects-user-2
bounds-subjects-user-2 c =
    let old = persons c.args.self.now in
    let at : slice_get (persons c.args.next.now) c.args.user ≡ Some c.requires.after = ap (λ ps. slice_get ps c.args.user) c.requires.becomes
    ∙ slice_get-set_same old c.args.user c.requires.before c.requires.after c.requires.was in
    let long = sym (length-map c.subjects-2.result.now (λ s. s.value)) ∙ ap length c.subjects-2.ensures in
    let within = slice_get_within (persons c.args.next.now) c.args.user c.requires.after at in
    omega (arith, long, within)
