-- Members and users that are added and removed again.
use Rattle.std.proofs.Common.{◌≡◌, ℕ, Bool, true, false, not, ◌||◌, cond, if◌then◌else◌, List, [], ◌∷◌, ◌++◌, length, map, filter, slice_get, slice_set, Option, Some, None, refl, sym, ap, ◌∙◌}
use Rattle.std.specs.List.{list_any, remove}
use Rattle.std.specs.Option.{option_map_or}
use Rattle.std.specs.Str.{bytes_eq}
use Rattle.std.specs.Cmp.Lexicographic.{nat_list_eq_equiv}
use Rattle.std.proofs.lemmas.List.{set-set, set-get_or}
use Rattle.std.proofs.lemmas.List.Elements.{filter-append}
use Rattle.std.proofs.lemmas.Option.{get_or_from_slice_get}
use Rattle.acl_names.proofs.Basics.{slice_get-last}
use Rattle.acl_text.specs.declared.rows.PasswdRow.{PasswdRow}
use Rattle.acl_text.specs.declared.rows.GroupRow.{GroupRow}
use Rattle.acl_people.specs.KnownPeople.{KnownPeople, names_user}
use Rattle.acl_people.specs.Changes.{change_at, name_of, gid_of, name_added, name_removed, without_member, with_user}
use Rattle.acl_people.specs.Laws.{AddedMemberIsRemoved, AddedUserIsRemoved}
use Rattle.acl_people.specs.Entries.{user_row}
use Rattle.acl_people.proofs.Changed.{change_at-set, name_removed-absent, group_row}
use Rattle.acl_people.proofs.Moving.{slice_get-set_same}

-- the name at the end of a row that did not name the user
row_again : (name : List ℕ) (row : GroupRow) → names_user name row ≡ false → name_removed name (name_added name row) ≡ row
row_again name row absent =
    ap (λ names. group_row row.name row.gid names)
    (filter-append (λ member. not (bytes_eq member name)) row.names (name ∷ [])
    ∙ ap (λ rest. filter (λ member. not (bytes_eq member name)) row.names ++ rest) last ∙ no_more (filter (λ member. not (bytes_eq member name)) row.names))
    ∙ name_removed-absent name row absent
  where
    last : filter (λ member. not (bytes_eq member name)) (name ∷ []) ≡ []
    last = ap (λ b. cond (not b) (name ∷ []) []) (nat_list_eq_equiv.refl name)

    no_more : {A : Type 0} (xs : List A) → xs ++ [] ≡ xs
    no_more [] = refl
    no_more (x ∷ xs) = ap (λ l. x ∷ l) (no_more xs)

rows_again : (name : List ℕ) (at : ℕ) (rows : List GroupRow) → option_map_or (names_user name) (slice_get rows at) false ≡ false
    → change_at at (name_removed name) (change_at at (name_added name) rows) ≡ rows
rows_again name at rows absent = by (slice_get rows at) refl absent
  where
    by : (o : Option GroupRow) → slice_get rows at ≡ o → option_map_or (names_user name) o false ≡ false → change_at at (name_removed name) (change_at at (name_added name) rows) ≡ rows
    by None e h =
        let none : change_at at (name_added name) rows ≡ rows = ap (λ o. option_map_or (λ r. slice_set rows at (name_added name r)) o rows) e in
        ap (λ rs. change_at at (name_removed name) rs) none ∙ ap (λ o. option_map_or (λ r. slice_set rows at (name_removed name r)) o rows) e
    by (Some row) e h =
        ap (λ rs. change_at at (name_removed name) rs) (change_at-set at (name_added name) rows row e)
        ∙ change_at-set at (name_removed name) (slice_set rows at (name_added name row)) (name_added name row) (slice_get-set_same rows at row (name_added name row) e)
        ∙ set-set rows at (name_added name row) (name_removed name (name_added name row))
        ∙ ap (λ r. slice_set rows at r) (row_again name row h ∙ sym (get_or_from_slice_get rows at row row e))
        ∙ set-get_or rows at row

pub member_again : AddedMemberIsRemoved
member_again user group known absent =
    ap (λ (b : Bool). without_member user group
    (if b then known else
    (let r : KnownPeople =
    record { users = known.users; groups = change_at group (name_added (name_of user known)) known.groups; passwd_loaded = known.passwd_loaded; group_loaded = known.group_loaded } in r))) absent
    ∙ ap (λ (rows : List GroupRow). let r : KnownPeople =
    record { users = known.users; groups = rows; passwd_loaded = known.passwd_loaded; group_loaded = known.group_loaded } in r) (rows_again (name_of user known) group known.groups absent)

remove-last : {A : Type 0} (xs : List A) (x : A) → remove (xs ++ x ∷ []) (length xs) ≡ xs
remove-last [] x = refl
remove-last (y ∷ ys) x = ap (λ l. y ∷ l) (remove-last ys x)

none_named : (name : List ℕ) (rows : List GroupRow) → list_any (names_user name) rows ≡ false → map (name_removed name) rows ≡ rows
none_named name [] absent = refl
none_named name (row ∷ rows) absent = by (names_user name row) refl absent (λ rest. none_named name rows rest)
  where
    by : (b : Bool) → names_user name row ≡ b → (b || list_any (names_user name) rows) ≡ false
        → (list_any (names_user name) rows ≡ false → map (name_removed name) rows ≡ rows) → name_removed name row ∷ map (name_removed name) rows ≡ row ∷ rows
    by true is h more = cc
    by false is h more = λ i. name_removed-absent name row is i ∷ more h i

pub user_again : AddedUserIsRemoved
user_again name uid group known absent =
    let row = user_row name uid (gid_of group known) in
    let same : name_of (length known.users) (with_user name uid group known) ≡ name = ap (λ o. option_map_or (λ (r : PasswdRow). r.name) o []) (slice_get-last known.users row) in
    (remove-last known.users row, ap (λ n. map (name_removed n) known.groups) same ∙ none_named name known.groups absent)
