use Rattle.std.proofs.Common.{◌≡◌, List, Bool, map, if◌then◌else◌, sym, ap, subst, ◌∙◌}
use Rattle.acl_text.specs.declared.rows.PasswdRow.{PasswdRow}
use Rattle.acl_text.specs.declared.rows.GroupRow.{GroupRow}
use Rattle.std.proofs.lemmas.Result.{IfOk-weaker}
use Rattle.acl_people.specs.KnownPeople.{KnownPeople, person, persons}
use Rattle.acl_people.specs.Changes.{change_at, name_of, name_added, with_member}
use Rattle.acl_people.specs.Moves.{ChangesUser}
use Rattle.acl_people.proofs.Moving.{added_changes, same_changes, changes_as}
use Rattle.acl_people.proofs.people.People.with_member.Goals as goal
use Rattle.acl_people.proofs.people.People.with_member.Goals.{After-user_rows}

abbrev with_rows_of : KnownPeople → List PasswdRow → List GroupRow → KnownPeople
with_rows_of known us gs = record { users = us; groups = gs; passwd_loaded = known.passwd_loaded; group_loaded = known.group_loaded }

groups : (c : After-user_rows) → c.in_ok-groups-2.groups.value ≡ change_at c.args.group (name_added (name_of c.args.user c.args.self.now)) c.args.self.now.groups
groups c =
    c.in_ok-groups-2.ensures.ok
    ∙ c.in_ok-groups.ensures
    ∙ ap (λ n. change_at c.args.group (name_added n) c.deref.result.now) c.name_of.ensures
    ∙ ap (λ rows. change_at c.args.group (name_added (name_of c.args.user c.args.self.now)) rows) (c.deref.ensures ∙ c.group_rows.ensures.rows)

changes : (c : After-user_rows) → ChangesUser (persons c.args.self.now) (map (person c.in_ok-groups-2.groups.value) c.user_rows.result.now.value) c.args.user
changes c = changes_as (persons c.args.self.now) _ _ _ _ c.args.user (groups c) c.user_rows.ensures.rows
    (added_changes c.args.self.now c.group_rows.ensures.sound c.args.user c.requires.user c.args.group)

pub with_rows-requires : goal.with_rows-requires
with_rows-requires c = changes (goal.at.with_rows-requires c).After-user_rows

pub returns-then-is_member-clause-rows : goal.returns-then-is_member-clause-rows
returns-then-is_member-clause-rows c =
    let known = c.args.self.now in
    let added = with_rows_of known known.users (change_at c.args.group (name_added (name_of c.args.user known)) known.groups) in
    IfOk-weaker c.share.result (λ people. people ≡ known) (λ people. people ≡ with_member c.args.user c.args.group known)
    (λ people is. is ∙ ap (λ (b : Bool). if b then known else added) (sym c.if-is_member.true ∙ c.is_member.ensures))
    c.share.ensures

pub returns-then-is_member-clause-change : goal.returns-then-is_member-clause-change
returns-then-is_member-clause-change c =
    let known = c.args.self.now in
    IfOk-weaker c.share.result (λ people. people ≡ known) (λ people. ChangesUser (persons known) (persons people) c.args.user)
    (λ people is. subst (λ people. ChangesUser (persons known) (persons people) c.args.user) (sym is) (same_changes known c.args.user c.requires.user))
    c.share.ensures

pub returns-clause-rows : goal.returns-clause-rows
returns-clause-rows c =
    let known = c.args.self.now in
    let before = (goal.at.returns-clause-rows c).After-user_rows in
    let added = with_rows_of known known.users (change_at c.args.group (name_added (name_of c.args.user known)) known.groups) in
    IfOk-weaker c.with_rows.result (λ people. people ≡ with_rows_of known c.user_rows.result.now.value c.in_ok-groups-2.groups.value) (λ people. people ≡ with_member c.args.user c.args.group known)
    (λ people is.
    is
    ∙ (λ i. with_rows_of known (c.user_rows.ensures.rows i) (groups before i))
    ∙ ap (λ (b : Bool). if b then known else added) (sym c.if-is_member.false ∙ c.is_member.ensures))
    c.with_rows.ensures

pub returns-clause-change : goal.returns-clause-change
returns-clause-change c =
    let old = persons c.args.self.now in
    IfOk-weaker c.with_rows.result (λ people. people ≡ with_rows_of c.args.self.now c.user_rows.result.now.value c.in_ok-groups-2.groups.value) (λ people. ChangesUser old (persons people) c.args.user)
    (λ people is. subst (λ people. ChangesUser old (persons people) c.args.user) (sym is) (changes (goal.at.returns-clause-change c).After-user_rows))
    c.with_rows.ensures
