use Rattle.std.proofs.Common.{◌≡◌, List, map, sym, ap, subst, ◌∙◌}
use Rattle.acl_text.specs.declared.rows.PasswdRow.{PasswdRow}
use Rattle.acl_text.specs.declared.rows.GroupRow.{GroupRow}
use Rattle.std.proofs.lemmas.Result.{IfOk-weaker}
use Rattle.acl_people.specs.KnownPeople.{KnownPeople, person, persons}
use Rattle.acl_people.specs.Changes.{change_at, gid_of, with_gid, with_primary_group}
use Rattle.acl_people.specs.Moves.{ChangesUser}
use Rattle.acl_people.proofs.Moving.{primary_changes, changes_as}
use Rattle.acl_people.proofs.people.People.with_primary_group.Goals as goal
use Rattle.acl_people.proofs.people.People.with_primary_group.Goals.{After-group_rows}

abbrev with_rows_of : KnownPeople → List PasswdRow → List GroupRow → KnownPeople
with_rows_of known us gs = record { users = us; groups = gs; passwd_loaded = known.passwd_loaded; group_loaded = known.group_loaded }

users : (c : After-group_rows) → c.in_ok-users-2.users.value ≡ change_at c.args.user (with_gid (gid_of c.args.group c.args.self.now)) c.args.self.now.users
users c =
    c.in_ok-users-2.ensures.ok
    ∙ c.in_ok-users.ensures
    ∙ ap (λ gid. change_at c.args.user (with_gid gid) c.deref.result.now) c.gid_of.ensures
    ∙ ap (λ rows. change_at c.args.user (with_gid (gid_of c.args.group c.args.self.now)) rows) (c.deref.ensures ∙ c.user_rows.ensures.rows)

changes : (c : After-group_rows) → ChangesUser (persons c.args.self.now) (map (person c.group_rows.result.now.value) c.in_ok-users-2.users.value) c.args.user
changes c = changes_as (persons c.args.self.now) _ _ _ _ c.args.user c.group_rows.ensures.rows (users c)
    (primary_changes c.args.self.now c.user_rows.ensures.sound c.args.user c.requires.user c.args.group)

pub with_rows-requires : goal.with_rows-requires
with_rows-requires c = changes c

pub returns-clause-rows : goal.returns-clause-rows
returns-clause-rows c =
    let known = c.args.self.now in
    let before = (goal.at.returns-clause-rows c).After-group_rows in
    IfOk-weaker c.with_rows.result (λ people. people ≡ with_rows_of known c.in_ok-users-2.users.value c.group_rows.result.now.value)
    (λ people. people ≡ with_primary_group c.args.user c.args.group known)
    (λ people is. is ∙ (λ i. with_rows_of known (users before i) (c.group_rows.ensures.rows i)))
    c.with_rows.ensures

pub returns-clause-change : goal.returns-clause-change
returns-clause-change c =
    let old = persons c.args.self.now in
    IfOk-weaker c.with_rows.result (λ people. people ≡ with_rows_of c.args.self.now c.in_ok-users-2.users.value c.group_rows.result.now.value) (λ people. ChangesUser old (persons people) c.args.user)
    (λ people is. subst (λ people. ChangesUser old (persons people) c.args.user) (sym is) (changes (goal.at.returns-clause-change c).After-group_rows))
    c.with_rows.ensures
