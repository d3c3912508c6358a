-- Rising numbers are those of their set in order.
use Rattle.std.proofs.Common.{◌≡◌, ℕ, Bool, true, false, ◌||◌, ◌&&◌, cond, eqb, List, [], ◌∷◌, ◌++◌, map, filter, Option, Some, None, option_map, Less, nat_cmp, T, refl, sym, ap, subst, ◌∙◌}
use Rattle.std.specs.Prelude.{slice_get}
use Rattle.std.specs.Ordering.{is_lt}
use Rattle.std.specs.Cmp.{unsigned_tied}
use Rattle.std.specs.List.{AllByRecursion}
use Rattle.std.specs.List.Sorted.{IsStrictlyIncreasing, IsStrictlySortedBy}
use Rattle.std.specs.Option.{option_map_or}
use Rattle.std.specs.FinSet as sets
use Rattle.std.specs.FinSet.{contains-from_list_nat, nat_cmp-IsAntisymmetric}
use Rattle.std.specs.FinMap.{find, is_sorted, entries, entries_sorted, from_entries, get-entries, get-from_entries}
use Rattle.std.specs.FinMap.Entries.{below_all, same_entries}
use Rattle.std.proofs.lemmas.Bool.{eqb-true}
use Rattle.std.proofs.lemmas.Cmp.{nat_cmp_total, nat_eq_equiv}
use Rattle.std.proofs.lemmas.List.Folds.{list_any-append}
use Rattle.std.proofs.lemmas.Map.Keys.{sorted_from_strictly_increasing}
use Rattle.std.proofs.lemmas.Map.Views.{any-filter_same}
use Rattle.std.proofs.lemmas.Option.{slice_get-map}
use Rattle.acl_names.proofs.Basics.{both_true}
use Rattle.acl_entry.specs.Mentions.{is_one_of}
use Rattle.acl_entry.specs.Person.{Person}
use Rattle.acl_text.specs.declared.rows.PasswdRow.{PasswdRow}
use Rattle.acl_people.specs.KnownPeople.{KnownPeople, gids_of, person, persons}
use Rattle.acl_entry.specs.GroupsOfOne.{AreMoved, in_just_one}
use Rattle.acl_people.specs.Moves.{rising, ids_of_one, user_gids}

-- ---- entries of a set

abbrev Marked : Type 0
Marked = List (ℕ × Unit {0})

abbrev marked : List ℕ → Marked
marked ids = map (λ id. (id, tt)) ids

below_each : (x : ℕ) (ids : List ℕ) → AllByRecursion (λ y. nat_cmp x y ≡ Less) ids → below_all nat_cmp x (marked ids) ≡ true
below_each x [] h = refl
below_each x (y ∷ ids) h = both_true _ _ (ap is_lt h.0) (below_each x ids h.1)

sorted_marked : (ids : List ℕ) → IsStrictlySortedBy nat_cmp ids → is_sorted nat_cmp (marked ids) ≡ true
unfolding IsStrictlySortedBy
sorted_marked [] h = refl
sorted_marked (x ∷ ids) h = both_true _ _ (below_each x ids h.0) (sorted_marked ids h.1)

abbrev mark : Bool → Option (Unit {0})
mark b = cond b (Some tt) None

find_marked : (ids : List ℕ) (id : ℕ) → find nat_cmp id (marked ids) ≡ mark (is_one_of id ids)
find_marked [] id = refl
find_marked (x ∷ ids) id =
    ap (λ b. cond b (Some tt) (find nat_cmp id (marked ids))) (unsigned_tied id x ∙ nat_eq_equiv.symm id x)
    ∙ ap (λ o. cond (eqb x id) (Some tt) o) (find_marked ids id)
    ∙ by (eqb x id) (is_one_of id ids)
  where
    by : (a b : Bool) → cond a (Some tt) (mark b) ≡ mark (a || b)
    by true b = refl
    by false b = refl

names : (ids : List ℕ) → map (λ e. e.0) (marked ids) ≡ ids
names [] = refl
names (id ∷ ids) = ap (λ l. id ∷ l) (names ids)

-- rising numbers are known by which they are
pub are_rising : (ids of : List ℕ) → IsStrictlyIncreasing ids → ((id : ℕ) → is_one_of id ids ≡ is_one_of id of) → ids ≡ rising of
are_rising ids of order same =
    let set = from_entries {R = nat_cmp} (marked of) in
    let found : (id : ℕ) → find nat_cmp id (marked ids) ≡ find nat_cmp id (entries set) =
    λ id. find_marked ids id ∙ ap mark (same id) ∙ sym (find_marked of id) ∙ sym (get-from_entries nat_cmp_total (marked of) id) ∙ get-entries set id
    in
    sym (names ids)
    ∙ ap (λ (es : Marked). map (λ e. e.0) es)
    (same_entries nat_cmp nat_cmp_total nat_cmp-IsAntisymmetric (marked ids) (entries set)
    (subst T (sym (sorted_marked ids (sorted_from_strictly_increasing ids order))) tt) (entries_sorted set) found)

-- ---- ids of one list or the other

either_one : (a b : Bool) → (in_just_one a b && (a || b)) ≡ in_just_one a b
either_one true true = refl
either_one true false = refl
either_one false true = refl
either_one false false = refl

in_one_list : (ids others : List ℕ) (id : ℕ) → is_one_of id (filter (λ x. in_just_one (is_one_of x ids) (is_one_of x others)) (ids ++ others)) ≡ in_just_one (is_one_of id ids) (is_one_of id others)
in_one_list ids others id =
    any-filter_same (λ x. eqb x id) (λ x. in_just_one (is_one_of x ids) (is_one_of x others)) (in_just_one (is_one_of id ids) (is_one_of id others))
    (λ x same. ap (λ y. in_just_one (is_one_of y ids) (is_one_of y others)) (eqb-true x id same))
    (ids ++ others)
    ∙ ap (λ b. in_just_one (is_one_of id ids) (is_one_of id others) && b) (list_any-append (λ x. eqb x id) ids others)
    ∙ either_one (is_one_of id ids) (is_one_of id others)

-- ---- a user's groups

groups_are : (known : KnownPeople) (user : ℕ) (p : Person) → slice_get (persons known) user ≡ Some p → (id : ℕ) → sets.contains p.groups id ≡ is_one_of id (user_gids known user)
groups_are known user p at id = by (slice_get known.users user) (sym (slice_get-map (person known.groups) known.users user) ∙ at)
  where
    by : (o : Option PasswdRow) → option_map (person known.groups) o ≡ Some p → sets.contains p.groups id ≡ is_one_of id (option_map_or (gids_of known.groups) o [])
    by None e = cc
    by (Some row) e = ap (λ (q : Person). sets.contains q.groups id) (sym (some_same (person known.groups row) p e)) ∙ contains-from_list_nat (gids_of known.groups row) id
      where
        some_same : (x y : Person) → Some x ≡ Some y → x ≡ y
        some_same x y e = cc

-- the ids that moved, by the rows
pub moved_ids : (old new : KnownPeople) (user : ℕ) (before after : Person) (ids : List ℕ) → slice_get (persons old) user ≡ Some before
    → slice_get (persons new) user ≡ Some after → AreMoved before after ids
    → ids ≡ ids_of_one (user_gids old user) (user_gids new user)
moved_ids old new user before after ids was is moved =
    are_rising ids _ moved.rising
    (λ id. moved.just id
    ∙ (λ i. in_just_one (groups_are old user before was id i) (groups_are new user after is id i))
    ∙ sym (in_one_list (user_gids old user) (user_gids new user) id))
