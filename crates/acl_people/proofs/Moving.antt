-- Which users a change of rows concerns.
use Rattle.std.proofs.Common.{◌≡◌, ◌≢◌, ℕ, zero, suc, ◌<◌, Bool, true, false, not, ◌||◌, cond, List, [], ◌∷◌, ◌++◌, length, map, filter, get_or, slice_get}
use Rattle.std.proofs.Common.{slice_set, position, Some, option_map, refl, sym, ap, subst, ◌∙◌, arith}
use Rattle.std.specs.List.{remove, flat_map}
use Rattle.std.specs.Option.{option_map_or}
use Rattle.std.specs.Str.{bytes_eq}
use Rattle.std.specs.FinSet as sets
use Rattle.std.proofs.lemmas.List.{map-set, map-append, get_or-map, length-map, length-set, set-get_or}
use Rattle.std.proofs.lemmas.List.Folds.{list_any-append}
use Rattle.std.proofs.lemmas.Map.Views.{any-filter_same}
use Rattle.std.proofs.lemmas.Option.{slice_get-map, slice_get_within, slice_get-get_or, get_or_from_slice_get}
use Rattle.std.proofs.lemmas.Simd.{map-map}
use Rattle.std.proofs.lemmas.Slice.Eq.{bytes_eq-Decides}
use Rattle.acl_names.proofs.Basics.{some_eq}
use Rattle.acl_entry.specs.Person.{Person}
use Rattle.acl_text.specs.declared.rows.PasswdRow.{PasswdRow}
use Rattle.acl_text.specs.declared.rows.GroupRow.{GroupRow}
use Rattle.acl_people.specs.NameTables.{is_name, AreNames}
use Rattle.acl_people.specs.Entries.{user_entry, user_row}
use Rattle.acl_people.specs.KnownPeople.{KnownPeople, users_of, names_user, person, persons, IsSound}
use Rattle.acl_people.specs.Changes.{change_at, name_of, gid_of, name_added, name_removed, without_member, with_gid, with_primary_group, with_user, without_user}
use Rattle.acl_people.specs.Moves.{ChangesUser, JoinsUser, LeavesUser}
use Rattle.acl_people.proofs.Changed.{change_at-set, map-change_at}

-- ---- rows that do not concern a name

-- the id that a row gives to the user of a name
abbrev given : List ℕ → GroupRow → List ℕ
given name row = cond (names_user name row) (row.gid ∷ []) []

gids-given : (name : List ℕ) (groups : List GroupRow) → map (λ row. row.gid) (filter (names_user name) groups) ≡ flat_map (λ ids. ids) (map (given name) groups)
gids-given name [] = refl
gids-given name (g ∷ gs) =
    elim (names_user name g) as (λ b. map (λ row. row.gid) (cond b (g ∷ filter (names_user name) gs) (filter (names_user name) gs))
    ≡ cond b (g.gid ∷ []) [] ++ flat_map (λ ids. ids) (map (given name) gs)) [
      | true ↦ ap (λ ids. g.gid ∷ ids) (gids-given name gs)
      | false ↦ gids-given name gs
    ]

-- rows that give the same to a user
person_same : (old new : List GroupRow) (row : PasswdRow) → map (given row.name) new ≡ map (given row.name) old → person new row ≡ person old row
person_same old new row same =
    ap (λ ids. let p : Person = record { uid = row.uid; groups = sets.from_list (row.gid ∷ ids) } in p)
    (gids-given row.name new ∙ ap (λ ls. flat_map (λ ids. ids) ls) same ∙ sym (gids-given row.name old))

given_same : (name : List ℕ) (old new : GroupRow) → new.gid ≡ old.gid → names_user name new ≡ names_user name old → given name new ≡ given name old
given_same name old new gid names = λ i. cond (names i) (gid i ∷ []) []

-- another name is added
added_other : (added name : List ℕ) (row : GroupRow) → bytes_eq added name ≡ false → given name (name_added added row) ≡ given name row
added_other added name row other = given_same name row (name_added added row) refl
    (list_any-append (λ member. bytes_eq member name) row.names (added ∷ [])
    ∙ ap (λ b. names_user name row || (b || false)) other
    ∙ or_none (names_user name row))
  where
    or_none : (b : Bool) → (b || false) ≡ b
    or_none true = refl
    or_none false = refl

-- another name is removed
removed_other : (removed name : List ℕ) (row : GroupRow) → bytes_eq removed name ≡ false → given name (name_removed removed row) ≡ given name row
removed_other removed name row other = given_same name row (name_removed removed row) refl
    (any-filter_same (λ member. bytes_eq member name) (λ member. not (bytes_eq member removed)) true kept row.names)
  where
    flip : (b : Bool) → (bytes_eq name removed ≡ b) → not b ≡ true
    flip true e = absurd (both (bytes_eq name removed) e ((bytes_eq-Decides name removed).0 e))
      where
        both : (b : Bool) → bytes_eq name removed ≡ true → name ≡ removed → ⊥
        both b e same = true_is_false (sym ((bytes_eq-Decides removed name).1 (sym same)) ∙ other)
          where
            true_is_false : true ≡ false → ⊥
            true_is_false h = cc
    flip false e = refl

    kept : (member : List ℕ) → bytes_eq member name ≡ true → not (bytes_eq member removed) ≡ true
    kept member is = ap (λ m. not (bytes_eq m removed)) ((bytes_eq-Decides member name).0 is) ∙ ap not refl ∙ flip (bytes_eq name removed) refl

-- ---- users of other names

-- users of one name are one
user_once : (users : List PasswdRow) → AreNames (map user_entry users) → (i j : ℕ) (x y : PasswdRow) → slice_get users i ≡ Some x → slice_get users j ≡ Some y → bytes_eq x.name y.name ≡ true → j ≡ i
user_once users names i j x y at_i at_j same = inner (sym (place j y at_j) ∙ ap (λ n. position (is_name n) (map user_entry users)) (sym ((bytes_eq-Decides x.name y.name).0 same)) ∙ place i x at_i)
  where
    inner : Some j ≡ Some i → j ≡ i
    inner e = cc

    place : (k : ℕ) (z : PasswdRow) → slice_get users k ≡ Some z → position (is_name z.name) (map user_entry users) ≡ Some k
    place k z at =
        let within : k < length users = slice_get_within users k z at in
        let is : get_or (map user_entry users) k (user_entry z) ≡ user_entry z = get_or-map user_entry users k z (user_entry z) within ∙ ap user_entry (get_or_from_slice_get users k z z at) in
        ap (λ e. position (is_name e.0) (map user_entry users)) (sym is) ∙ names.once k (user_entry z) (subst (λ n. k < n) (sym (length-map users user_entry)) within)

module _ {A B : Type 0} (new old : A → B) where
  map_same : (xs : List A) → ((i : ℕ) (y : A) → slice_get xs i ≡ Some y → new y ≡ old y) → map new xs ≡ map old xs
  map_same [] same = refl
  map_same (x ∷ xs) same = λ i. same zero x refl i ∷ map_same xs (λ k y at. same (suc k) y at) i

  -- all but one have the same value
  map_one : (u : ℕ) (xs : List A) (x : A) → slice_get xs u ≡ Some x → ((i : ℕ) (y : A) → slice_get xs i ≡ Some y → i ≢ u → new y ≡ old y) → map new xs ≡ slice_set (map old xs) u (new x)
  map_one u [] x at same = cc
  map_one zero (y ∷ ys) x at same = λ i. new (first at i) ∷ map_same ys (λ k z here. same (suc k) z here (omega arith)) i
    where
      first : Some y ≡ Some x → y ≡ x
      first e = cc
  map_one (suc u) (y ∷ ys) x at same = λ i. same zero y refl (omega arith) i ∷ map_one u ys x at (λ k z here apart. same (suc k) z here (λ e. apart (omega (arith, e)))) i

  -- one is removed, and all others have the same value
  map_removed : (u : ℕ) (xs : List A) (x : A) → slice_get xs u ≡ Some x → ((i : ℕ) (y : A) → slice_get xs i ≡ Some y → i ≢ u → new y ≡ old y) → map new (remove xs u) ≡ remove (map old xs) u
  map_removed u [] x at same = cc
  map_removed zero (y ∷ ys) x at same = map_same ys (λ k z here. same (suc k) z here (omega arith))
  map_removed (suc u) (y ∷ ys) x at same = λ i. same zero y refl (omega arith) i ∷ map_removed u ys x at (λ k z here apart. same (suc k) z here (λ e. apart (omega (arith, e)))) i

other_name : (users : List PasswdRow) → AreNames (map user_entry users) → (u i : ℕ) (x y : PasswdRow) → slice_get users u ≡ Some x → slice_get users i ≡ Some y → i ≢ u → bytes_eq x.name y.name ≡ false
other_name users names u i x y at here apart = by (bytes_eq x.name y.name) refl
  where
    by : (b : Bool) → bytes_eq x.name y.name ≡ b → b ≡ false
    by true same = absurd (apart (user_once users names u i x y at here same))
    by false same = refl

-- ---- how the users move

pub row_at : (users : List PasswdRow) (u : ℕ) → u < length users → slice_get users u ≡ Some (get_or users u (user_row [] 0 0))
row_at users u lt = slice_get-get_or users u (user_row [] 0 0) lt

named : (known : KnownPeople) (u : ℕ) (row : PasswdRow) → slice_get known.users u ≡ Some row → name_of u known ≡ row.name
named known u row at = ap (λ o. option_map_or (λ r. r.name) o []) at

pub person_at : (known : KnownPeople) (u : ℕ) (row : PasswdRow) → slice_get known.users u ≡ Some row → slice_get (persons known) u ≡ Some (person known.groups row)
person_at known u row at = slice_get-map (person known.groups) known.users u ∙ ap (λ o. option_map (person known.groups) o) at

changes_none : (old : List Person) (u : ℕ) (p : Person) → slice_get old u ≡ Some p → ChangesUser old old u
changes_none old u p at = record { before = p; after = p; was = at; becomes = sym (ap (λ x. slice_set old u x) (sym (get_or_from_slice_get old u p p at)) ∙ set-get_or old u p); uid = refl }

changes_rows : (known : KnownPeople) (u : ℕ) (row : PasswdRow) (groups : List GroupRow) → AreNames (users_of known) → slice_get known.users u ≡ Some row
    → ((name : List ℕ) → bytes_eq row.name name ≡ false → map (given name) groups ≡ map (given name) known.groups)
    → ChangesUser (persons known) (map (person groups) known.users) u
changes_rows known u row groups names at same = record {
  before = person known.groups row;
  after = person groups row;
  was = person_at known u row at;
  becomes = map_one (person groups) (person known.groups) u known.users row at
      (λ i y here apart. person_same known.groups groups y (same y.name (other_name known.users names u i row y at here apart)));
  uid = refl;
}

-- nothing changes
pub same_changes : (known : KnownPeople) (u : ℕ) → u < length known.users → ChangesUser (persons known) (persons known) u
same_changes known u within = let row = get_or known.users u (user_row [] 0 0) in changes_none (persons known) u (person known.groups row) (person_at known u row (row_at known.users u within))

module _ (known : KnownPeople) (sound : IsSound known) (u : ℕ) (within : u < length known.users) where
  abbrev row : PasswdRow
  row = get_or known.users u (user_row [] 0 0)

  abbrev name : List ℕ
  name = name_of u known

  other : (n : List ℕ) → bytes_eq row.name n ≡ false → bytes_eq name n ≡ false
  other n apart = ap (λ m. bytes_eq m n) (named known u row (row_at known.users u within)) ∙ apart

  -- a name added to a row
  pub added_changes : (g : ℕ) → ChangesUser (persons known) (map (person (change_at g (name_added name) known.groups)) known.users) u
  added_changes g = changes_rows known u row (change_at g (name_added name) known.groups) sound.user_names (row_at known.users u within)
      (λ n apart. map-change_at (given n) g (name_added name) known.groups (λ r. added_other name n r (other n apart)))

  -- a name removed from a row
  pub removed_changes : (g : ℕ) → ChangesUser (persons known) (persons (without_member u g known)) u
  removed_changes g = changes_rows known u row (change_at g (name_removed name) known.groups) sound.user_names (row_at known.users u within)
      (λ n apart. map-change_at (given n) g (name_removed name) known.groups (λ r. removed_other name n r (other n apart)))

  -- another primary group
  pub primary_changes : (g : ℕ) → ChangesUser (persons known) (persons (with_primary_group u g known)) u
  primary_changes g = record {
    before = person known.groups row;
    after = person known.groups (with_gid (gid_of g known) row);
    was = person_at known u row (row_at known.users u within);
    becomes =
        ap (λ rows. map (person known.groups) rows) (change_at-set u (with_gid (gid_of g known)) known.users row (row_at known.users u within))
        ∙ map-set (person known.groups) known.users u (with_gid (gid_of g known) row);
    uid = refl;
  }

  -- a user removed, and the name from every row
  pub leaves : LeavesUser (persons known) (persons (without_user u known)) u
  leaves = record {
    was = subst (λ n. u < n) (sym (length-map known.users (person known.groups))) within;
    becomes = map_removed (person (map (name_removed name) known.groups)) (person known.groups) u known.users row (row_at known.users u within)
        (λ i y here apart. person_same known.groups (map (name_removed name) known.groups) y
        (map-map (given y.name) (name_removed name) known.groups
        ∙ map_same (λ r. given y.name (name_removed name r)) (given y.name) known.groups
        (λ k r at. removed_other name y.name r (other y.name (other_name known.users sound.user_names u i row y (row_at known.users u within) here apart)))));
  }

-- one user more
pub joins : (known : KnownPeople) (name : List ℕ) (uid g : ℕ) → JoinsUser (persons known) (persons (with_user name uid g known))
joins known name uid g = record { next = person known.groups (user_row name uid (gid_of g known)); becomes = map-append (person known.groups) known.users (user_row name uid (gid_of g known) ∷ []) }

-- ---- a change of one user, and the rows after it

pub changes_as : (old : List Person) (groups groups' : List GroupRow) (users users' : List PasswdRow) (u : ℕ) → groups' ≡ groups → users' ≡ users
    → ChangesUser old (map (person groups) users) u → ChangesUser old (map (person groups') users') u
changes_as old groups groups' users users' u gs us ch = subst (λ new. ChangesUser old new u) (λ i. map (person (sym gs i)) (sym us i)) ch

pub leaves_as : (old : List Person) (groups groups' : List GroupRow) (users users' : List PasswdRow) (u : ℕ) → groups' ≡ groups → users' ≡ users
    → LeavesUser old (map (person groups) users) u → LeavesUser old (map (person groups') users') u
leaves_as old groups groups' users users' u gs us ch = subst (λ new. LeavesUser old new u) (λ i. map (person (sym gs i)) (sym us i)) ch

pub slice_get-set_same : {A : Type 0} (xs : List A) (u : ℕ) (x y : A) → slice_get xs u ≡ Some x → slice_get (slice_set xs u y) u ≡ Some y
slice_get-set_same [] u x y at = cc
slice_get-set_same (z ∷ zs) zero x y at = refl
slice_get-set_same (z ∷ zs) (suc u) x y at = slice_get-set_same zs u x y at

-- the user as the rows after the change give it
pub after_is : (old : List Person) (groups : List GroupRow) (users : List PasswdRow) (u : ℕ) (ch : ChangesUser old (map (person groups) users) u)
    (row : PasswdRow) → slice_get users u ≡ Some row → person groups row ≡ ch.after
after_is old groups users u ch row at =
    some_eq (person groups row) ch.after
    (ap (λ o. option_map (person groups) o) (sym at) ∙ sym (slice_get-map (person groups) users u) ∙ ap (λ ps. slice_get ps u) ch.becomes ∙ slice_get-set_same old u ch.before ch.after ch.was)

pub user_within : (old : List Person) (groups : List GroupRow) (users : List PasswdRow) (u : ℕ) → ChangesUser old (map (person groups) users) u → u < length users
user_within old groups users u ch =
    let as_long : length users ≡ length old = sym (length-map users (person groups)) ∙ ap length ch.becomes ∙ length-set old u ch.after in
    omega (arith, as_long, slice_get_within old u ch.before ch.was)
