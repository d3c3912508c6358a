-- The names that ids print as are found under these ids.
use Rattle.std.proofs.Common.{◌≡◌, ℕ, ◌<◌, Bool, true, false, not, ◌&&◌, eqb, List, length, get_or, slice_get, position, find, Option, Some, None, option_map}
use Rattle.std.proofs.Common.{option_and_then, refl, sym, ap, subst, ◌∙◌}
use Rattle.std.specs.List.{list_all}
use Rattle.std.proofs.lemmas.Bool.{eqb-true}
use Rattle.std.proofs.lemmas.List.Quantifiers.{position-Some}
use Rattle.std.proofs.lemmas.Option.{get_or_from_slice_get}
use Rattle.acl_names.specs.Pieces.{is_byte}
use Rattle.acl_names.proofs.Basics.{none_is_not_some, some_eq}
use Rattle.acl_text.specs.Ids.{is_number}
use Rattle.acl_text.specs.Writing.{IsNamed, IsFoundAs}
use Rattle.acl_people.specs.NameTables.{Named, is_name, prints, id_named, name_shown, AreNames, IsNaming}
use Rattle.acl_people.proofs.Places.{find-position}

-- a row that an id prints as
record Shown (es : List Named) (id : ℕ) (name : List ℕ) : Type 0 where
  row : Named
  at : ℕ
  within : at < length es
  is_counted_there : slice_get es at ≡ Some row
  named : row.0 ≡ name
  passes : prints id row ≡ true

shown : (es : List Named) (id : ℕ) (name : List ℕ) → name_shown id es ≡ Some name → Shown es id name
shown es id name is = by (position (prints id) es) refl (sym (ap (λ o. option_map (λ e. e.0) o) (find-position (prints id) es)) ∙ is)
  where
    by : (o : Option ℕ) → position (prints id) es ≡ o → option_map (λ e. e.0) (option_and_then (λ i. slice_get es i) o) ≡ Some name → Shown es id name
    by None e h = absurd (none_is_not_some name h)
    by (Some i) e h = row (slice_get es i) refl h
      where
        row : (r : Option Named) → slice_get es i ≡ r → option_map (λ e. e.0) r ≡ Some name → Shown es id name
        row None e2 h2 = absurd (none_is_not_some name h2)
        row (Some r) e2 h2 =
            let first = position-Some (prints id) es i r e in
            record {
              row = r;
              at = i;
              within = first.0;
              is_counted_there = e2;
              named = some_eq r.0 name h2;
              passes = ap (λ x. prints id x) (sym (get_or_from_slice_get es i r r e2)) ∙ first.1;
            }

both : (a b : Bool) → (a && not b) ≡ true → (a ≡ true) × (b ≡ false)
both true false h = (refl, refl)
both true true h = cc
both false b h = cc

is_found : (es : List Named) → AreNames es → (id : ℕ) (name : List ℕ) → name_shown id es ≡ Some name → IsFoundAs (λ n. id_named n es) id name
is_found es names id name is =
    let s = shown es id name is in
    let at : get_or es s.at s.row ≡ s.row = get_or_from_slice_get es s.at s.row s.row s.is_counted_there in
    let named : (get_or es s.at s.row).0 ≡ name = ap (λ e. e.0) at ∙ s.named in
    let first : position (is_name name) es ≡ Some s.at = ap (λ n. position (is_name n) es) (sym named) ∙ names.once s.at s.row s.within in
    let passes = both (eqb s.row.1 id) (is_number s.row.0) s.passes in
    let found : find (is_name name) es ≡ Some s.row = find-position (is_name name) es ∙ ap (λ o. option_and_then (λ i. slice_get es i) o) first ∙ s.is_counted_there in
    record {
      made_of_bytes = ap (λ n. list_all is_byte n) (sym named) ∙ names.made_of_bytes s.at s.row s.within;
      not_empty = subst (λ n. 0 < length n) named (names.filled s.at s.row s.within);
      no_number = ap (λ n. is_number n) (sym s.named) ∙ passes.1;
      found = ap (λ o. option_map (λ e. e.1) o) found ∙ ap (λ n. Some n) (eqb-true s.row.1 id passes.0);
    }

pub is_naming : (es : List Named) → AreNames es → IsNaming (λ name. id_named name es) (λ id. name_shown id es)
is_naming es names id = by (name_shown id es) refl
  where
    by : (o : Option (List ℕ)) → name_shown id es ≡ o → IsNamed (λ n. id_named n es) id o
    by None is = tt
    by (Some name) is = is_found es names id name is
