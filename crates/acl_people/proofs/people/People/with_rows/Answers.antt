use Rattle.std.proofs.Common.{◌≡◌, map, slice_get, slice_set, Some, List, option_map, sym, ap, ◌∙◌, arith, length}
use Rattle.std.proofs.lemmas.List.{length-map}
use Rattle.acl_entry.specs.Person.{Person}
use Rattle.acl_text.specs.declared.rows.PasswdRow.{PasswdRow}
use Rattle.acl_text.specs.declared.rows.GroupRow.{GroupRow}
use Rattle.acl_people.specs.KnownPeople.{person, persons}
use Rattle.acl_people.proofs.Moving.{after_is, user_within}
use Rattle.acl_people.proofs.Pointers.{value_at}
use Rattle.acl_people.proofs.people.People.with_rows.Goals as goal

pub with-requires : goal.with-requires
with-requires c =
    let old = persons c.args.self.now in
    let groups = c.args.groups.now.value in
    let users = c.args.users.now.value in
    let row = c.index-rows-user.result.value in
    let rows : map (λ r. r.value) c.rows.result.now ≡ users = c.rows.ensures ∙ c.deref-2.ensures in
    let within = user_within old groups users c.args.user c.requires in
    let as_long : length c.rows.result.now ≡ length users = sym (length-map c.rows.result.now (λ r. r.value)) ∙ ap length rows in
    let at : slice_get users c.args.user ≡ Some row =
    ap (λ rs. slice_get rs c.args.user) (sym rows) ∙ value_at (λ r. r.value) c.rows.result.now c.args.user c.index-rows-user.result (omega arith) c.index-rows-user.is
    in
    let is : c.in_ok-subject.subject.value ≡ c.requires.after =
    c.in_ok-subject.ensures
    ∙ ap (λ (gs : List GroupRow). person gs c.deref-3.result.now) c.deref.ensures
    ∙ ap (λ (r : PasswdRow). person groups r) c.deref-3.ensures
    ∙ after_is old groups users c.args.user c.requires row at
    in
    ap (λ ps. option_map (λ (u : Person). u.uid) (slice_get ps c.args.user)) c.all_subjects.ensures
    ∙ ap (λ o. option_map (λ (u : Person). u.uid) o) c.requires.was
    ∙ ap (λ n. Some n) (sym c.requires.uid ∙ ap (λ (u : Person). u.uid) (sym is))

pub invariant_of-result : goal.invariant_of-result
invariant_of-result c =
    let old = persons c.args.self.now in
    let groups = c.args.groups.now.value in
    let users = c.args.users.now.value in
    let row = c.index-rows-user.result.value in
    let rows : map (λ r. r.value) c.rows.result.now ≡ users = c.rows.ensures ∙ c.deref-2.ensures in
    let within = user_within old groups users c.args.user c.requires in
    let as_long : length c.rows.result.now ≡ length users = sym (length-map c.rows.result.now (λ r. r.value)) ∙ ap length rows in
    let at : slice_get users c.args.user ≡ Some row =
    ap (λ rs. slice_get rs c.args.user) (sym rows) ∙ value_at (λ r. r.value) c.rows.result.now c.args.user c.index-rows-user.result (omega arith) c.index-rows-user.is
    in
    let is : c.in_ok-subject.subject.value ≡ c.requires.after =
    c.in_ok-subject.ensures
    ∙ ap (λ (gs : List GroupRow). person gs c.deref-3.result.now) c.deref.ensures
    ∙ ap (λ (r : PasswdRow). person groups r) c.deref-3.ensures
    ∙ after_is old groups users c.args.user c.requires row at
    in
    c.in_ok-subjects.ensures
    ∙ ap (λ ps. slice_set ps c.args.user c.in_ok-subject.subject.value) c.all_subjects.ensures
    ∙ ap (λ (p : Person). slice_set old c.args.user p) is
    ∙ sym c.requires.becomes
    ∙ (λ i. map (person (sym c.in_ok-clone-2.ensures.cases i)) (sym c.in_ok-clone.ensures.cases i))

pub bounds-rows-user : goal.bounds-rows-user
bounds-rows-user c =
    let users = c.args.users.now.value in
    let rows : map (λ r. r.value) c.rows.result.now ≡ users = c.rows.ensures ∙ c.deref-2.ensures in
    let within = user_within (persons c.args.self.now) c.args.groups.now.value users c.args.user c.requires in
    let as_long : length c.rows.result.now ≡ length users = sym (length-map c.rows.result.now (λ r. r.value)) ∙ ap length rows in
    omega (arith, within, as_long)

pub returns : goal.returns
returns c = λ i. record {
  users = c.in_ok-clone.ensures.cases i;
  groups = c.in_ok-clone-2.ensures.cases i;
  passwd_loaded = (c.self.view_is i).passwd_loaded;
  group_loaded = (c.self.view_is i).group_loaded;
}
