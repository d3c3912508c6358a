-- What is reached along paths, in a whole table.
use Rattle.std.proofs.Common.{◌≡◌, ℕ, zero, suc, ◌+◌, Bool, true, false, cond, not, ◌||◌, ◌&&◌, List, [], ◌∷◌, length, map, filter, Option, Some, None}
use Rattle.std.proofs.Common.{Ordering, Less, Equal, Greater, ◌++◌, append_assoc, refl, sym, ap, ◌∙◌, arith}
use Rattle.std.specs.Prelude.{option_map, option_and_then, slice_get, if◌then◌else◌, nat_lt}
use Rattle.std.specs.Option.{option_map_or}
use Rattle.std.specs.FinMap.{find}
use Rattle.std.proofs.lemmas.Bool.{ltb-true, ltb-false}
use Rattle.std.proofs.lemmas.List.{length-map}
use Rattle.acl_entry.specs.Check.{has}
use Rattle.acl_entry.specs.Perms.{Perms}
use Rattle.acl_entry.specs.Person.{Person}
use Rattle.acl_names.specs.Paths.{path_cmp, PathOf}
use Rattle.acl_names.proofs.PathOrder.{exact_paths}
use Rattle.std.specs.Ordering.{is_eq}
use Rattle.acl_edit.specs.declared.node.Node.{Node}
use Rattle.acl_names.specs.Below.{is_above}
use Rattle.acl_tree.specs.Files.{Files}
use Rattle.acl_people.specs.KnownPeople.{person, persons}
use Rattle.acl_tree.specs.State.{State}
use Rattle.path_classes.specs.Rows.{Rows, places_from, who_in, grants_to, may_in}
use Rattle.acl_rights.specs.Rows.{Verdict, cells_of, rows_of}
use Rattle.acl_rights.specs.Tables.{VerdictTable, IsWhole}
use Rattle.path_classes.specs.ReachedRows.{execute, can_search, passes_in, reach_cell, reached_from, reached_rows, reached_at}
use Rattle.acl_rights.specs.Reach.{passes, reach, reach_at, users_reaching, files_reached}
use Rattle.path_classes.proofs.Maps.{find-values}
use Rattle.acl_rights.proofs.Asked.{got-map, got, none_got}

-- ---- values by paths and values

module _ {A B : Type 0} (g : PathOf → A → B) where
  pub find-along : (p : PathOf) (es : List (PathOf × A)) → find path_cmp p (map (λ e. (e.0, g e.0 e.1)) es) ≡ option_map (g p) (find path_cmp p es)
  find-along p [] = refl
  find-along p (e ∷ es) = by (path_cmp p e.0) refl (find-along p es)
    where
      by : (o : Ordering) → path_cmp p e.0 ≡ o → find path_cmp p (map (λ x. (x.0, g x.0 x.1)) es) ≡ option_map (g p) (find path_cmp p es)
          → cond (is_eq o) (Some (g e.0 e.1)) (find path_cmp p (map (λ x. (x.0, g x.0 x.1)) es)) ≡ option_map (g p) (cond (is_eq o) (Some e.1) (find path_cmp p es))
      by Less is rest = rest
      by Greater is rest = rest
      by Equal is rest = ap (λ q. Some (g q e.1)) (sym (exact_paths p e.0 is))

pub got-from : (rows : Rows) (p : PathOf) (n : ℕ) (cells : List ℕ) (user : ℕ) → slice_get (reached_from rows p n cells) user ≡ option_map (reach_cell rows (n + user) p) (slice_get cells user)
got-from rows p n [] user = refl
got-from rows p n (c ∷ cells) zero = let e : n ≡ n + 0 = omega arith in ap (λ k. Some (reach_cell rows k p c)) e
got-from rows p n (c ∷ cells) (suc user) = let e : suc n + user ≡ n + suc user = omega arith in got-from rows p (suc n) cells user ∙ ap (λ k. option_map (reach_cell rows k p) (slice_get cells user)) e

module _ (V : Verdict) (us : List Person) where
  search_is : (user : ℕ) (u : Person) → slice_get us user ≡ Some u → (n : Node) → can_search user (cells_of V us n) ≡ has (V u n.label) execute
  search_is user u is n = ap (λ o. option_map_or (λ c. has c execute) o false) (got-map (λ w. V w n.label) us user ∙ ap (option_map (λ w. V w n.label)) is)

  passes_are : (user : ℕ) (u : Person) → slice_get us user ≡ Some u → (p : PathOf) (fs : Files) → passes_in (rows_of V us fs) user p ≡ passes V fs u p
  passes_are user u is p [] = refl
  passes_are user u is p (e ∷ fs) = λ i. (not (is_above e.0 p) || search_is user u is e.1 i) && passes_are user u is p fs i

  pub reached_is : (fs : Files) (p : PathOf) → find path_cmp p (reached_rows (rows_of V us fs)) ≡ option_map (λ n. reached_from (rows_of V us fs) p 0 (cells_of V us n)) (find path_cmp p fs)
  reached_is fs p =
      find-along (λ q cells. reached_from (rows_of V us fs) q 0 cells) p (rows_of V us fs)
      ∙ ap (option_map (λ cells. reached_from (rows_of V us fs) p 0 cells)) (find-values (cells_of V us) p fs)
      ∙ twice (find path_cmp p fs)
    where
      twice : (o : Option Node) → option_map (λ cells. reached_from (rows_of V us fs) p 0 cells) (option_map (cells_of V us) o)
          ≡ option_map (λ n. reached_from (rows_of V us fs) p 0 (cells_of V us n)) o
      twice None = refl
      twice (Some n) = refl

  pub cell_reached : (fs : Files) (p : PathOf) (user : ℕ) (o : Option Node)
      → option_and_then (λ (cells : List ℕ). slice_get cells user) (option_map (λ n. reached_from (rows_of V us fs) p 0 (cells_of V us n)) o)
      ≡ option_and_then (λ n. option_map (λ u. reach V fs u (p, n)) (slice_get us user)) o
  cell_reached fs p user None = refl
  cell_reached fs p user (Some n) = got-from (rows_of V us fs) p 0 (cells_of V us n) user ∙ first
      ∙ ap (option_map (reach_cell (rows_of V us fs) user p)) (got-map (λ u. V u n.label) us user) ∙ by (slice_get us user) refl
    where
      nothing : 0 + user ≡ user
      nothing = omega arith

      first : option_map (reach_cell (rows_of V us fs) (0 + user) p) (slice_get (cells_of V us n) user) ≡ option_map (reach_cell (rows_of V us fs) user p) (slice_get (cells_of V us n) user)
      first = ap (λ k. option_map (reach_cell (rows_of V us fs) k p) (slice_get (cells_of V us n) user)) nothing

      by : (o : Option Person) → slice_get us user ≡ o → option_map (reach_cell (rows_of V us fs) user p) (option_map (λ u. V u n.label) o) ≡ option_map (λ u. reach V fs u (p, n)) o
      by None is = refl
      by (Some u) is = ap (λ b. Some (if b then V u n.label else 0)) (passes_are user u is p fs)

  -- the places of those who reach a file
  places_reached : (fs : Files) (p : PathOf) (n : Node) (q : Perms) (k : ℕ) (done rest : List Person) → us ≡ done ++ rest → length done ≡ k
      → places_from (λ c. has c q) k (reached_from (rows_of V us fs) p k (map (λ u. V u n.label) rest)) ≡ places_from (λ u. has (reach V fs u (p, n)) q) k rest
  places_reached fs p n q k done [] all long = refl
  places_reached fs p n q k done (u ∷ rest) all long =
      let is : slice_get us k ≡ Some u = ap (λ l. slice_get l k) all ∙ got-at done u rest k long in
      let byte : reach_cell (rows_of V us fs) k p (V u n.label) ≡ reach V fs u (p, n) = ap (λ b. if b then V u n.label else 0) (passes_are k u is p fs) in
      let more = places_reached fs p n q (suc k) (done ++ u ∷ []) rest (all ∙ sym (append_assoc done (u ∷ []) rest)) (longer done u ∙ ap suc long) in
      λ i. cond (has (byte i) q) (k ∷ more i) (more i)
    where
      got-at : (xs : List Person) (y : Person) (ys : List Person) (i : ℕ) → length xs ≡ i → slice_get (xs ++ y ∷ ys) i ≡ Some y
      got-at [] y ys zero h = refl
      got-at [] y ys (suc i) h = cc
      got-at (x ∷ xs) y ys zero h = cc
      got-at (x ∷ xs) y ys (suc i) h = let e : length xs ≡ i = omega (arith, h) in got-at xs y ys i e

      longer : (xs : List Person) (y : Person) → length (xs ++ y ∷ []) ≡ suc (length xs)
      longer [] y = refl
      longer (x ∷ xs) y = ap suc (longer xs y)

  who_reached : (fs : Files) (p : PathOf) (q : Perms) (o : Option Node)
      → option_map (who_in q) (option_map (λ n. reached_from (rows_of V us fs) p 0 (cells_of V us n)) o) ≡ option_map (λ n. places_from (λ u. has (reach V fs u (p, n)) q) 0 us) o
  who_reached fs p q None = refl
  who_reached fs p q (Some n) = ap Some (places_reached fs p n q 0 [] us refl refl)

  -- the paths that a user reaches
  paths_reached : (all : Files) (q : Perms) (user : ℕ) (u : Person) → slice_get us user ≡ Some u → (fs : Files)
      → may_in q user (map (λ (r : PathOf × List ℕ). (r.0, reached_from (rows_of V us all) r.0 0 r.1)) (rows_of V us fs)) ≡ map (λ e. e.0) (filter (λ e. has (reach V all u e) q) fs)
  paths_reached all q user u is [] = refl
  paths_reached all q user u is (e ∷ fs) =
      let rest = map (λ (r : PathOf × List ℕ). (r.0, reached_from (rows_of V us all) r.0 0 r.1)) (rows_of V us fs) in
      let first : PathOf × List ℕ = (e.0, reached_from (rows_of V us all) e.0 0 (cells_of V us e.1)) in
      let cell : slice_get first.1 user ≡ Some (reach V all u e) =
      cell_reached all e.0 user (Some e.1) ∙ ap (option_map (λ w. reach V all w e)) is in
      let here : grants_to q user first ≡ has (reach V all u e) q = ap (λ o. option_map_or (λ c. has c q) o false) cell in
      ap (λ b. map (λ (r : PathOf × List ℕ). r.0) (cond b (first ∷ filter (grants_to q user) rest) (filter (grants_to q user) rest))) here
      ∙ by (has (reach V all u e) q) first rest refl (paths_reached all q user u is fs)
    where
      by : (b : Bool) (first : PathOf × List ℕ) (rest : Rows) → first.0 ≡ e.0
          → map (λ (r : PathOf × List ℕ). r.0) (filter (grants_to q user) rest) ≡ map (λ (x : PathOf × Node). x.0) (filter (λ x. has (reach V all u x) q) fs)
          → map (λ (r : PathOf × List ℕ). r.0) (cond b (first ∷ filter (grants_to q user) rest) (filter (grants_to q user) rest))
          ≡ map (λ (x : PathOf × Node). x.0) (cond b (e ∷ filter (λ x. has (reach V all u x) q) fs) (filter (λ x. has (reach V all u x) q) fs))
      by true first rest same more = λ i. same i ∷ more i
      by false first rest same more = more

module _ (V : Verdict) (s : State) (t : VerdictTable) (whole : IsWhole V s t) where
  abbrev us : List Person
  us = persons s.people

  abbrev fs : Files
  fs = s.tree.files

  pub reach_is : (user : ℕ) (p : PathOf) → reached_at t.rows user p ≡ reach_at V s user p
  reach_is user p =
      ap (λ rows. reached_at rows user p) whole.rows
      ∙ ap (option_and_then (λ (cells : List ℕ). slice_get cells user)) (reached_is V us fs p)
      ∙ cell_reached V us fs p user (find path_cmp p fs)

  pub who_reach_is : (p : PathOf) (q : Perms) → option_map (who_in q) (find path_cmp p (reached_rows t.rows)) ≡ users_reaching V s p q
  who_reach_is p q =
      ap (λ rows. option_map (who_in q) (find path_cmp p (reached_rows rows))) whole.rows
      ∙ ap (option_map (who_in q)) (reached_is V us fs p)
      ∙ who_reached V us fs p q (find path_cmp p fs)

  pub may_reach_all : (user : ℕ) (q : Perms) → (if nat_lt user t.users then Some (may_in q user (reached_rows t.rows)) else None) ≡ files_reached V s user q
  may_reach_all user q = by (nat_lt user t.users) refl
    where
      long : length us ≡ length s.people.users
      long = length-map s.people.users (person s.people.groups)

      by : (b : Bool) → nat_lt user t.users ≡ b → (if b then Some (may_in q user (reached_rows t.rows)) else None) ≡ files_reached V s user q
      by true is =
          let x = got us user (omega (arith, long, whole.users, ltb-true user t.users is)) in
          ap (λ rows. Some (may_in q user (reached_rows rows))) whole.rows ∙ ap Some (paths_reached V us fs q user x.0 x.1 fs)
          ∙ ap (option_map (λ u. map (λ (e : PathOf × Node). e.0) (filter (λ e. has (reach V fs u e) q) fs))) (sym x.1)
      by false is =
          ap (option_map (λ u. map (λ (e : PathOf × Node). e.0) (filter (λ e. has (reach V fs u e) q) fs))) (sym (none_got us user (omega (arith, long, whole.users, ltb-false user t.users is))))
