use Rattle.std.proofs.Common.{◌≡◌, List, map, sym, subst, ap, ◌∙◌}
use Rattle.std.specs.List.{remove}
use Rattle.acl_text.specs.declared.rows.PasswdRow.{PasswdRow}
use Rattle.acl_text.specs.declared.rows.GroupRow.{GroupRow}
use Rattle.std.proofs.lemmas.Result.{IfOk-weaker}
use Rattle.acl_people.specs.KnownPeople.{KnownPeople, person, persons}
use Rattle.acl_people.specs.Changes.{name_of, name_removed, without_user}
use Rattle.acl_people.specs.Moves.{LeavesUser}
use Rattle.acl_people.proofs.Moving.{leaves, leaves_as}
use Rattle.acl_people.proofs.people.People.without_user.Goals as goal
use Rattle.acl_people.proofs.people.People.without_user.Goals.{In_ok-groups}

abbrev with_rows_of : KnownPeople → List PasswdRow → List GroupRow → KnownPeople
with_rows_of known us gs = record { users = us; groups = gs; passwd_loaded = known.passwd_loaded; group_loaded = known.group_loaded }

groups : (c : In_ok-groups) → c.in_ok-groups.groups.value ≡ map (name_removed (name_of c.args.user c.args.self.now)) c.args.self.now.groups
groups c =
    c.in_ok-groups.ensures.ok
    ∙ c.in_ok-without_user.ensures
    ∙ ap (λ n. map (name_removed n) c.deref-2.result.now) c.name_of.ensures
    ∙ ap (λ rows. map (name_removed (name_of c.args.user c.args.self.now)) rows) (c.deref-2.ensures ∙ c.group_rows.ensures.rows)

users : (c : In_ok-groups) → c.in_ok-users.users.value ≡ remove c.args.self.now.users c.args.user
users c = c.in_ok-users.ensures.ok ∙ c.in_ok-without_row.ensures ∙ ap (λ rows. remove rows c.args.user) (c.deref.ensures ∙ c.user_rows.ensures.rows)

leaving : (c : In_ok-groups) → LeavesUser (persons c.args.self.now) (map (person c.in_ok-groups.groups.value) c.in_ok-users.users.value) c.args.user
leaving c = leaves_as (persons c.args.self.now) _ _ _ _ c.args.user (groups c) (users c) (leaves c.args.self.now c.user_rows.ensures.sound c.args.user c.requires)

pub without_subject-requires : goal.without_subject-requires
without_subject-requires c = leaving c

pub returns-clause-rows : goal.returns-clause-rows
returns-clause-rows c =
    let known = c.args.self.now in
    let before = (goal.at.returns-clause-rows c).In_ok-groups in
    IfOk-weaker c.without_subject.result (λ people. people ≡ with_rows_of known c.in_ok-users.users.value c.in_ok-groups.groups.value) (λ people. people ≡ without_user c.args.user known)
    (λ people is. is ∙ (λ i. with_rows_of known (users before i) (groups before i)))
    c.without_subject.ensures

pub returns-clause-leaves : goal.returns-clause-leaves
returns-clause-leaves c =
    let old = persons c.args.self.now in
    IfOk-weaker c.without_subject.result (λ people. people ≡ with_rows_of c.args.self.now c.in_ok-users.users.value c.in_ok-groups.groups.value) (λ people. LeavesUser old (persons people) c.args.user)
    (λ people is. subst (λ people. LeavesUser old (persons people) c.args.user) (sym is) (leaving (goal.at.returns-clause-leaves c).In_ok-groups))
    c.without_subject.ensures
