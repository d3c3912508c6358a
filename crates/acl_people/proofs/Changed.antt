-- Rows of which one is changed, and names put into a row or taken out of it.
use Rattle.std.proofs.Common.{◌≡◌, ℕ, Bool, true, false, not, ◌||◌, cond, List, [], ◌∷◌, map, filter, slice_get, slice_set, Option, Some, None, refl, sym, ap, ◌∙◌}
use Rattle.std.specs.List.{list_any}
use Rattle.std.specs.Option.{option_map_or}
use Rattle.std.specs.Str.{bytes_eq}
use Rattle.std.proofs.Math.Seq.{map-set_same}
use Rattle.std.proofs.lemmas.Option.{get_or_from_slice_get}
use Rattle.acl_text.specs.declared.rows.GroupRow.{GroupRow}
use Rattle.acl_people.specs.KnownPeople.{names_user}
use Rattle.acl_people.specs.Changes.{change_at, name_removed}

abbrev pub group_row : List ℕ → ℕ → List (List ℕ) → GroupRow
group_row name gid names = record { name = name; gid = gid; names = names }

pub change_at-set : {R : Type 0} (at : ℕ) (f : R → R) (rows : List R) (row : R) → slice_get rows at ≡ Some row → change_at at f rows ≡ slice_set rows at (f row)
change_at-set at f rows row is = ap (λ o. option_map_or (λ r. slice_set rows at (f r)) o rows) is

-- what the change leaves as it is in a row, it leaves as it is in all
pub map-change_at : {R A : Type 0} (g : R → A) (at : ℕ) (f : R → R) (rows : List R) → ((row : R) → g (f row) ≡ g row) → map g (change_at at f rows) ≡ map g rows
map-change_at {R} g at f rows same = by (slice_get rows at) refl
  where
    by : (o : Option R) → slice_get rows at ≡ o → map g (option_map_or (λ r. slice_set rows at (f r)) o rows) ≡ map g rows
    by None e = refl
    by (Some r) e = map-set_same g rows at (f r) r (same r ∙ ap g (sym (get_or_from_slice_get rows at r r e)))

none_removed : (name : List ℕ) (names : List (List ℕ)) → list_any (λ member. bytes_eq member name) names ≡ false → filter (λ member. not (bytes_eq member name)) names ≡ names
none_removed name [] absent = refl
none_removed name (m ∷ ms) absent = by (bytes_eq m name) absent (λ rest. none_removed name ms rest)
  where
    by : (b : Bool) → (b || list_any (λ member. bytes_eq member name) ms) ≡ false → (list_any (λ member. bytes_eq member name) ms ≡ false → filter (λ member. not (bytes_eq member name)) ms ≡ ms)
        → cond (not b) (m ∷ filter (λ member. not (bytes_eq member name)) ms) (filter (λ member. not (bytes_eq member name)) ms) ≡ m ∷ ms
    by true found more = cc
    by false rest more = ap (λ l. m ∷ l) (more rest)

-- a name that is not in the row
pub name_removed-absent : (name : List ℕ) (row : GroupRow) → names_user name row ≡ false → name_removed name row ≡ row
name_removed-absent name row absent = ap (λ names. group_row row.name row.gid names) (none_removed name row.names absent)
