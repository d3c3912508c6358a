-- A group that the primary group or another row gives.
use Rattle.std.proofs.Common.{◌≡◌, ℕ, zero, suc, Bool, true, false, ◌&&◌, ◌||◌, cond, if◌then◌else◌, nat_eq, nat_cmp, List, [], ◌∷◌, map, filter, length}
use Rattle.std.proofs.Common.{get_or, slice_get, slice_set, Option, Some, None, ◌<◌, refl, sym, ap, ◌∙◌}
use Rattle.std.specs.List.{list_any, remove}
use Rattle.std.specs.Option.{option_map_or}
use Rattle.std.specs.FinSet as sets
use Rattle.std.specs.FinSet.{contains-from_list_nat, same_set, nat_cmp-IsAntisymmetric}
use Rattle.std.proofs.lemmas.Cmp.{nat_cmp_total}
use Rattle.std.proofs.lemmas.Bool.{eqb-true}
use Rattle.std.proofs.lemmas.List.{set-get_or}
use Rattle.std.proofs.lemmas.Option.{get_or_from_slice_get}
use Rattle.acl_names.proofs.Basics.{or_swapped}
use Rattle.acl_entry.specs.Person.{Person}
use Rattle.acl_text.specs.declared.rows.PasswdRow.{PasswdRow}
use Rattle.acl_text.specs.declared.rows.GroupRow.{GroupRow}
use Rattle.acl_people.specs.KnownPeople.{KnownPeople, names_user, gids_of, person, persons, IsSound}
use Rattle.acl_people.specs.Changes.{change_at, name_of, gid_of, name_added, name_removed, is_member, with_member, without_member}
use Rattle.acl_people.specs.Laws.{has_otherwise}
use Rattle.acl_people.specs.Moves.{ChangesUser}
use Rattle.acl_people.specs.Entries.{user_row}
use Rattle.acl_people.proofs.Changed.{change_at-set}
use Rattle.acl_people.proofs.Moving.{slice_get-set_same, added_changes, removed_changes, row_at, person_at, after_is}

module _ {A : Type 0} where
  -- the element at a place and the others
  any-remove : (p : A → Bool) (i : ℕ) (xs : List A) (x : A) → slice_get xs i ≡ Some x → list_any p xs ≡ (p x || list_any p (remove xs i))
  any-remove p i [] x at = cc
  any-remove p zero (y ∷ ys) x at = ap (λ z. p z || list_any p ys) (same at)
    where
      same : Some y ≡ Some x → y ≡ x
      same e = cc
  any-remove p (suc i) (y ∷ ys) x at = ap (λ b. p y || b) (any-remove p i ys x at) ∙ or_swapped (p y) (p x) (list_any p (remove ys i))

  remove-set : (i : ℕ) (xs : List A) (x : A) → remove (slice_set xs i x) i ≡ remove xs i
  remove-set i [] x = refl
  remove-set zero (y ∷ ys) x = refl
  remove-set (suc i) (y ∷ ys) x = ap (λ l. y ∷ l) (remove-set i ys x)

-- the row names the user, and its id is this one
abbrev gives : List ℕ → ℕ → GroupRow → Bool
gives name gid row = names_user name row && nat_eq row.gid gid

any-gids : (name : List ℕ) (gid : ℕ) (rows : List GroupRow) → list_any (λ id. nat_eq id gid) (map (λ row. row.gid) (filter (names_user name) rows)) ≡ list_any (gives name gid) rows
any-gids name gid [] = refl
any-gids name gid (r ∷ rs) =
    elim (names_user name r) as (λ b. list_any (λ id. nat_eq id gid)
    (map (λ row. row.gid) (cond b (r ∷ filter (names_user name) rs) (filter (names_user name) rs))) ≡ ((b && nat_eq r.gid gid) || list_any (gives name gid) rs)) [
      | true ↦ ap (λ b. nat_eq r.gid gid || b) (any-gids name gid rs)
      | false ↦ any-gids name gid rs
    ]

contains-person : (rows : List GroupRow) (row : PasswdRow) (gid : ℕ) → sets.contains (person rows row).groups gid ≡ (nat_eq row.gid gid || list_any (gives row.name gid) rows)
contains-person rows row gid = contains-from_list_nat (gids_of rows row) gid ∙ ap (λ b. nat_eq row.gid gid || b) (any-gids row.name gid rows)

-- with the row at a place, and without it
contains-remove : (rows : List GroupRow) (at : ℕ) (r : GroupRow) (row : PasswdRow) (gid : ℕ) → slice_get rows at ≡ Some r
    → sets.contains (person rows row).groups gid ≡ (gives row.name gid r || sets.contains (person (remove rows at) row).groups gid)
contains-remove rows at r row gid is =
    contains-person rows row gid
    ∙ ap (λ b. nat_eq row.gid gid || b) (any-remove (gives row.name gid) at rows r is)
    ∙ or_swapped (nat_eq row.gid gid) (gives row.name gid r) (list_any (gives row.name gid) (remove rows at))
    ∙ ap (λ b. gives row.name gid r || b) (sym (contains-person (remove rows at) row gid))

-- another row of the same id at a place, where the user has the id otherwise
otherwise_same : (rows : List GroupRow) (at : ℕ) (r new : GroupRow) (row : PasswdRow) → slice_get rows at ≡ Some r → new.gid ≡ r.gid
    → sets.contains (person (remove rows at) row).groups r.gid ≡ true → person (slice_set rows at new) row ≡ person rows row
otherwise_same rows at r new row is gid has =
    ap (λ (g : sets.FinSet nat_cmp). let p : Person = record { uid = row.uid; groups = g } in p) (same_set nat_cmp_total nat_cmp-IsAntisymmetric _ _ (λ q.
    contains-remove (slice_set rows at new) at new row q (slice_get-set_same rows at r new is)
    ∙ ap (λ (rs : List GroupRow). gives row.name q new || sets.contains (person rs row).groups q) (remove-set at rows new)
    ∙ ap (λ id. (names_user row.name new && nat_eq id q) || sets.contains (person (remove rows at) row).groups q) gid
    ∙ same_at q (nat_eq r.gid q) refl
    ∙ sym (contains-remove rows at r row q is)))
  where
    no_more : (a b c : Bool) → ((a && false) || c) ≡ ((b && false) || c)
    no_more true true c = refl
    no_more true false c = refl
    no_more false true c = refl
    no_more false false c = refl

    all : (a b : Bool) → (a || true) ≡ (b || true)
    all true true = refl
    all true false = refl
    all false true = refl
    all false false = refl

    same_at : (q : ℕ) (b : Bool) → nat_eq r.gid q ≡ b
        → ((names_user row.name new && nat_eq r.gid q) || sets.contains (person (remove rows at) row).groups q)
        ≡ ((names_user row.name r && nat_eq r.gid q) || sets.contains (person (remove rows at) row).groups q)
    same_at q false e =
        ap (λ b. (names_user row.name new && b) || sets.contains (person (remove rows at) row).groups q) e
        ∙ no_more (names_user row.name new) (names_user row.name r) (sets.contains (person (remove rows at) row).groups q)
        ∙ ap (λ b. (names_user row.name r && b) || sets.contains (person (remove rows at) row).groups q) (sym e)
    same_at q true e =
        let w : sets.contains (person (remove rows at) row).groups q ≡ true = ap (λ id. sets.contains (person (remove rows at) row).groups id) (sym (eqb-true r.gid q e)) ∙ has in
        ap (λ b. (names_user row.name new && nat_eq r.gid q) || b) w
        ∙ all (names_user row.name new && nat_eq r.gid q) (names_user row.name r && nat_eq r.gid q) ∙ ap (λ b. (names_user row.name r && nat_eq r.gid q) || b) (sym w)

module _ (known : KnownPeople) (sound : IsSound known) (u : ℕ) (within : u < length known.users) where
  abbrev row : PasswdRow
  row = get_or known.users u (user_row [] 0 0)

  row_same : (at : ℕ) (change : GroupRow → GroupRow) → ((r : GroupRow) → (change r).gid ≡ r.gid) → has_otherwise u at known ≡ true
      → person (change_at at change known.groups) row ≡ person known.groups row
  row_same at change gid has = by (slice_get known.groups at) refl
    where
      held : sets.contains (person (remove known.groups at) row).groups (gid_of at known) ≡ true
      held = ap (λ o. option_map_or (λ (r : PasswdRow). sets.contains (person (remove known.groups at) r).groups (gid_of at known)) o false) (sym (row_at known.users u within)) ∙ has

      by : (o : Option GroupRow) → slice_get known.groups at ≡ o → person (change_at at change known.groups) row ≡ person known.groups row
      by None e = ap (λ o. person (option_map_or (λ r. slice_set known.groups at (change r)) o known.groups) row) e
      by (Some r) e =
          let id : gid_of at known ≡ r.gid = ap (λ o. option_map_or (λ (r : GroupRow). r.gid) o 0) e in
          ap (λ (rs : List GroupRow). person rs row) (change_at-set at change known.groups r e)
          ∙ otherwise_same known.groups at r (change r) row e (gid r) (ap (λ i. sets.contains (person (remove known.groups at) row).groups i) (sym id) ∙ held)

  -- rows that give the user the same, and all others too
  unmoved : (groups : List GroupRow) → ChangesUser (persons known) (map (person groups) known.users) u → person groups row ≡ person known.groups row → map (person groups) known.users ≡ persons known
  unmoved groups ch same =
      let at = row_at known.users u within in
      let before = person known.groups row in
      ch.becomes
      ∙ ap (λ (p : Person). slice_set (persons known) u p)
      (sym (after_is (persons known) groups known.users u ch row at) ∙ same ∙ sym (get_or_from_slice_get (persons known) u before before (person_at known u row at)))
      ∙ set-get_or (persons known) u before

  pub otherwise : (at : ℕ) → has_otherwise u at known ≡ true → (persons (with_member u at known) ≡ persons known) × (persons (without_member u at known) ≡ persons known)
  otherwise at has = (
    added (is_member u at known) refl,
    unmoved (change_at at (name_removed (name_of u known)) known.groups) (removed_changes known sound u within at) (row_same at (name_removed (name_of u known)) (λ r. refl) has),
  )
    where
      added : (b : Bool) → is_member u at known ≡ b → persons
          (if b then known else
          (let r : KnownPeople =
          record {
            users = known.users;
            groups = change_at at (name_added (name_of u known)) known.groups;
            passwd_loaded = known.passwd_loaded;
            group_loaded =
                known.group_loaded;
          } in r)) ≡ persons known
      added true e = refl
      added false e = unmoved (change_at at (name_added (name_of u known)) known.groups) (added_changes known sound u within at) (row_same at (name_added (name_of u known)) (λ r. refl) has)
