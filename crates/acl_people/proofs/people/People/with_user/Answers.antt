use Rattle.std.proofs.Common.{◌≡◌, ◌<◌, ◌≤◌, ℕ, List, ◌∷◌, ◌++◌, [], true, false, Option, Some, None, length, map, position, refl, sym, subst, ap, ◌∙◌}
use Rattle.std.specs.Option.{is_some}
use Rattle.std.specs.List.{list_all}
use Rattle.std.proofs.lemmas.List.{map_push, length-map}
use Rattle.acl_names.specs.Pieces.{is_byte}
use Rattle.acl_text.specs.declared.rows.PasswdRow.{PasswdRow}
use Rattle.acl_text.specs.Rows.{most_rows}
use Rattle.std.proofs.lemmas.Result.{IfOk-weaker}
use Rattle.acl_people.specs.NameTables.{is_name, AreCounted}
use Rattle.acl_people.specs.Entries.{user_entry, user_row}
use Rattle.acl_people.specs.KnownPeople.{KnownPeople, persons, users_of}
use Rattle.acl_people.specs.Changes.{gid_of, with_user}
use Rattle.acl_people.specs.Moves.{JoinsUser}
use Rattle.acl_people.proofs.Counted.{IsNameText, counted_push}
use Rattle.acl_people.proofs.Moving.{joins}
use Rattle.acl_people.proofs.people.People.with_user.Goals as goal
use Rattle.acl_people.proofs.people.People.with_user.Goals.{In_ok-row}

none_where : (o : Option ℕ) → is_some o ≡ false → o ≡ None
none_where None e = refl
none_where (Some i) e = cc

pub with_user_row-requires : goal.with_user_row-requires
with_user_row-requires c =
    let known = c.args.self.now in
    let next = user_row c.args.name.now c.args.uid c.gid_of-gid.result in
    let counted : AreCounted (users_of known) =
    record { names = c.soundness_law.ensures.user_names; few = subst (λ n. n ≤ most_rows) (sym (length-map known.users user_entry)) c.soundness_law.ensures.few_users } in
    let name : c.as_bytes.result.now ≡ c.args.name.now = c.as_bytes.ensures ∙ c.as_name.ensures.all in
    let text : IsNameText c.args.name.now = record {
      filled = c.as_name.ensures.filled;
      made_of_bytes = subst (λ (n : List ℕ). list_all is_byte n ≡ true) name c.in_ok-row.ensures.bytes;
    } in
    let new : position (is_name c.args.name.now) (users_of known) ≡ None = none_where _ c.requires.new in
    let room : length (users_of known) < most_rows = subst (λ n. n < most_rows) (sym (length-map known.users user_entry)) c.requires.room in
    let pushed : map user_entry (known.users ++ next ∷ []) ≡ users_of known ++ user_entry next ∷ [] = map_push user_entry known.users next in
    let is : c.in_ok-row.row ≡ next = c.in_ok-row.ensures.made ∙ ap (λ (n : List ℕ). user_row n c.args.uid c.gid_of-gid.result) name in
    subst (λ r. AreCounted (map user_entry (known.users ++ r ∷ []))) (sym is)
    (subst AreCounted (sym pushed) (counted_push (users_of known) (user_entry next) counted new text room))

abbrev with_row : KnownPeople → PasswdRow → KnownPeople
with_row known row = record { users = known.users ++ row ∷ []; groups = known.groups; passwd_loaded = true; group_loaded = known.group_loaded }

-- the row of the new user
row : (c : In_ok-row) → c.in_ok-row.row ≡ user_row c.args.name.now c.args.uid (gid_of c.args.group c.args.self.now)
row c =
    let name : c.as_bytes.result.now ≡ c.args.name.now = c.as_bytes.ensures ∙ c.as_name.ensures.all in
    c.in_ok-row.ensures.made ∙ (λ i. user_row (name i) c.args.uid (c.gid_of-gid.ensures i))

pub returns-clause-rows : goal.returns-clause-rows
returns-clause-rows c =
    let known = c.args.self.now in
    IfOk-weaker c.with_user_row.result (λ people. people ≡ with_row known c.in_ok-row.row) (λ people. people ≡ with_user c.args.name.now c.args.uid c.args.group known)
    (λ people is. is ∙ ap (λ r. with_row known r) (row (goal.at.returns-clause-rows c).In_ok-row))
    c.with_user_row.ensures

pub returns-clause-joins : goal.returns-clause-joins
returns-clause-joins c =
    let known = c.args.self.now in
    IfOk-weaker c.with_user_row.result (λ people. people ≡ with_row known c.in_ok-row.row) (λ people. JoinsUser (persons known) (persons people))
    (λ people is.
    subst (λ people. JoinsUser (persons known) (persons people)) (sym (is ∙ ap (λ r. with_row known r) (row (goal.at.returns-clause-joins c).In_ok-row)))
    (joins known c.args.name.now c.args.uid c.args.group))
    c.with_user_row.ensures
