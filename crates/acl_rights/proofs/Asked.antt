-- What is asked of a whole table.
use Rattle.std.proofs.Common.{◌≡◌, ℕ, zero, suc, ◌<◌, ◌≤◌, Bool, true, false, cond, List, [], ◌∷◌, length, map, filter, Option, Some, None, refl, sym, ap, ◌∙◌, arith}
use Rattle.std.specs.Prelude.{option_map, option_and_then, slice_get, if◌then◌else◌, nat_lt}
use Rattle.std.specs.Option.{option_map_or}
use Rattle.std.specs.FinMap.{find}
use Rattle.std.proofs.lemmas.Bool.{ltb-true, ltb-false}
use Rattle.std.proofs.lemmas.List.{length-map}
use Rattle.acl_entry.specs.Check.{has}
use Rattle.acl_entry.specs.Perms.{Perms}
use Rattle.acl_entry.specs.Person.{Person}
use Rattle.acl_names.specs.Paths.{path_cmp, PathOf}
use Rattle.acl_edit.specs.declared.node.Node.{Node}
use Rattle.acl_tree.specs.Files.{Files}
use Rattle.acl_people.specs.KnownPeople.{person, persons}
use Rattle.acl_tree.specs.State.{State}
use Rattle.path_classes.specs.Rows.{Rows, places_from, who_in, grants_to, may_in}
use Rattle.acl_rights.specs.Rows.{Verdict, cells_of, rows_of}
use Rattle.acl_rights.specs.Tables.{VerdictTable, IsWhole, cell_at, verdict_at, users_granted_alone, files_granted_alone}
use Rattle.path_classes.proofs.Maps.{find-values}

pub got-map : {A B : Type 0} (f : A → B) (xs : List A) (i : ℕ) → slice_get (map f xs) i ≡ option_map f (slice_get xs i)
got-map f [] i = refl
got-map f (x ∷ xs) zero = refl
got-map f (x ∷ xs) (suc i) = got-map f xs i

places-map : {A B : Type 0} (test : B → Bool) (f : A → B) (n : ℕ) (xs : List A) → places_from test n (map f xs) ≡ places_from (λ x. test (f x)) n xs
places-map test f n [] = refl
places-map test f n (x ∷ xs) = λ i. cond (test (f x)) (n ∷ places-map test f (suc n) xs i) (places-map test f (suc n) xs i)

pub got : (xs : List Person) (i : ℕ) → i < length xs → (x : Person) × (slice_get xs i ≡ Some x)
got [] i lt = absurd (omega arith)
got (x ∷ xs) zero lt = (x, refl)
got (x ∷ xs) (suc i) lt = got xs i (omega arith)

pub none_got : (xs : List Person) (i : ℕ) → length xs ≤ i → slice_get xs i ≡ None
none_got [] i le = refl
none_got (x ∷ xs) zero le = absurd (omega arith)
none_got (x ∷ xs) (suc i) le = none_got xs i (omega arith)

module _ (V : Verdict) (s : State) (t : VerdictTable) (whole : IsWhole V s t) where
  abbrev us : List Person
  us = persons s.people

  pub row_is : (p : PathOf) → find path_cmp p t.rows ≡ option_map (cells_of V us) (find path_cmp p s.tree.files)
  row_is p = ap (λ (rows : Rows). find path_cmp p rows) whole.rows ∙ find-values (cells_of V us) p s.tree.files

  one_cell : (user : ℕ) (o : Option Node) → option_and_then (λ (cells : List ℕ). slice_get cells user) (option_map (cells_of V us) o)
      ≡ option_and_then (λ n. option_map (λ u. V u n.label) (slice_get us user)) o
  one_cell user None = refl
  one_cell user (Some n) = got-map (λ u. V u n.label) us user

  pub cell_is : (user : ℕ) (p : PathOf) → cell_at t user p ≡ verdict_at V s user p
  cell_is user p = ap (option_and_then (λ (cells : List ℕ). slice_get cells user)) (row_is p) ∙ one_cell user (find path_cmp p s.tree.files)

  some_users : (q : Perms) (o : Option Node) → option_map (who_in q) (option_map (cells_of V us) o) ≡ option_map (λ n. places_from (λ u. has (V u n.label) q) 0 us) o
  some_users q None = refl
  some_users q (Some n) = ap Some (places-map (λ c. has c q) (λ u. V u n.label) 0 us)

  pub who_is : (p : PathOf) (q : Perms) → option_map (who_in q) (find path_cmp p t.rows) ≡ users_granted_alone V s p q
  who_is p q = ap (option_map (who_in q)) (row_is p) ∙ some_users q (find path_cmp p s.tree.files)

  some_files : (q : Perms) (user : ℕ) (u : Person) → slice_get us user ≡ Some u → (fs : Files) → may_in q user (rows_of V us fs) ≡ map (λ e. e.0) (filter (λ e. has (V u e.1.label) q) fs)
  some_files q user u is [] = refl
  some_files q user u is (e ∷ fs) =
      let here : grants_to q user (e.0, cells_of V us e.1) ≡ has (V u e.1.label) q =
      ap (λ o. option_map_or (λ c. has c q) o false) (got-map (λ w. V w e.1.label) us user ∙ ap (option_map (λ w. V w e.1.label)) is) in
      ap (λ b. map (λ (r : PathOf × List ℕ). r.0) (cond b ((e.0, cells_of V us e.1) ∷ filter (grants_to q user) (rows_of V us fs)) (filter (grants_to q user) (rows_of V us fs)))) here
      ∙ by (has (V u e.1.label) q) (some_files q user u is fs)
    where
      by : (b : Bool) → map (λ (r : PathOf × List ℕ). r.0) (filter (grants_to q user) (rows_of V us fs)) ≡ map (λ (x : PathOf × Node). x.0) (filter (λ x. has (V u x.1.label) q) fs)
          → map (λ (r : PathOf × List ℕ). r.0) (cond b ((e.0, cells_of V us e.1) ∷ filter (grants_to q user) (rows_of V us fs)) (filter (grants_to q user) (rows_of V us fs)))
          ≡ map (λ (x : PathOf × Node). x.0) (cond b (e ∷ filter (λ x. has (V u x.1.label) q) fs) (filter (λ x. has (V u x.1.label) q) fs))
      by true rest = ap (λ ps. e.0 ∷ ps) rest
      by false rest = rest

  pub may_is : (user : ℕ) (q : Perms) → user < t.users → Some (may_in q user t.rows) ≡ files_granted_alone V s user q
  may_is user q lt =
      let long = length-map s.people.users (person s.people.groups) in
      let x = got us user (omega (arith, long, whole.users, lt)) in
      ap (λ rows. Some (may_in q user rows)) whole.rows ∙ ap Some (some_files q user x.0 x.1 s.tree.files)
      ∙ ap (option_map (λ u. map (λ (e : PathOf × Node). e.0) (filter (λ e. has (V u e.1.label) q) s.tree.files))) (sym x.1)

  pub may_not : (user : ℕ) (q : Perms) → t.users ≤ user → None ≡ files_granted_alone V s user q
  may_not user q le =
      let long = length-map s.people.users (person s.people.groups) in
      ap (option_map (λ u. map (λ (e : PathOf × Node). e.0) (filter (λ e. has (V u e.1.label) q) s.tree.files))) (sym (none_got us user (omega (arith, long, whole.users, le))))

  pub may_all : (user : ℕ) (q : Perms) → (if nat_lt user t.users then Some (may_in q user t.rows) else None) ≡ files_granted_alone V s user q
  may_all user q = by (nat_lt user t.users) refl
    where
      by : (b : Bool) → nat_lt user t.users ≡ b → (if b then Some (may_in q user t.rows) else None) ≡ files_granted_alone V s user q
      by true is = may_is user q (ltb-true user t.users is)
      by false is = may_not user q (ltb-false user t.users is)
