-- A line changes few answers along paths.
use Rattle.std.proofs.Common.{◌≡◌, ℕ, suc, ◌+◌, ◌*◌, ◌≤◌, Bool, true, false, not, eqb, ◌&&◌, List, [], ◌∷◌, length, filter, is_some, Option, Some, None, refl, sym, ap, subst, ◌∙◌, arith}
use Rattle.std.specs.Prelude.{option_map, option_and_then, slice_get, count_by, if◌then◌else◌}
use Rattle.std.specs.Option.{option_map_or}
use Rattle.std.specs.List.{sum_by, AllByRecursion}
use Rattle.std.specs.FinMap.{find}
use Rattle.std.proofs.lemmas.Bool.{and_from, eqb-true, eq-eqb}
use Rattle.std.proofs.lemmas.List.{length-map}
use Rattle.std.proofs.lemmas.List.Sums.{sum_by-cons}
use Rattle.acl_entry.specs.Check.{has}
use Rattle.acl_entry.specs.Mentions.{AgreeOnMentions}
use Rattle.acl_entry.specs.Person.{Person}
use Rattle.acl_entry.specs.declared.label.Label.{Label}
use Rattle.acl_names.specs.Paths.{path_cmp, PathOf}
use Rattle.acl_edit.specs.declared.node.Node.{Node}
use Rattle.acl_names.specs.Below.{encloses, is_above}
use Rattle.acl_tree.specs.Changed.{same_label, is_changed, changed_between, gone_between}
use Rattle.acl_tree.specs.Files.{Files, Recorded}
use Rattle.acl_people.specs.KnownPeople.{persons}
use Rattle.acl_people.specs.Moves.{MovesUser}
use Rattle.path_map.specs.Below.{holds_below, lies_in}
use Rattle.acl_tree.specs.Reports.{StagedState, UsersMoved, place_left}
use Rattle.acl_tree.specs.declared.user_change.UserChange.{UserChange}
use Rattle.acl_tree.specs.declared.user_change.UserChange.TheVariants.{Unchanged, Loaded, Memberships, Added, Removed}
use Rattle.acl_tree.proofs.Changes.{label_is_same}
use Rattle.path_map.specs.Entries.{IsInOrder}
use Rattle.path_classes.specs.Rows.{Rows}
use Rattle.acl_rights.specs.Rows.{Verdict, cells_of, rows_of}
use Rattle.acl_rights.specs.Groups.{mentions_one}
use Rattle.path_classes.specs.ReachedRows.{execute, reached_from, reached_rows}
use Rattle.acl_rights.specs.Reach.{passes, reach, moves_refreshed, verdicts_refreshed}
use Rattle.acl_rights.specs.Differing.{place_before, is_as_before, is_as_in, fails_from, differing}
use Rattle.acl_rights.specs.Kept.{GoesFrom}
use Rattle.acl_rights.proofs.Lines.{agree, got_in, set_here}
use Rattle.acl_rights.proofs.Reached.{reached_is, cell_reached}
use Rattle.acl_rights.proofs.Goes.{moves, joins, leaves, old_order}
use Rattle.acl_names.proofs.Below.{below_within, within_cases, within_itself}
use Rattle.acl_names.proofs.Basics.{not_both, false_from, times_one, times_none}
use Rattle.path_classes.proofs.Maps.{map_twice}
use Rattle.acl_rights.proofs.RowCounts.{missed_most, missed_none, missed_one, any_found, any_filter, each_found, alike_above, some_same, long_row, sum_le}
use Rattle.acl_rights.proofs.RowCounts.{finds, sum_parts, set_other, joined_was, left_was, person_same}

module _ (V : Verdict) (us ws : List Person) (fs gs : Files) (fo : IsInOrder fs) (go : IsInOrder gs) where
  -- a user's answer at a file was there before
  record IsKept (move : UserChange) (e : PathOf × Node) (i : ℕ) (w : Person) : Type 0 where
    pub node : Node
    pub user : Person
    pub found : find path_cmp e.0 fs ≡ Some node
    pub was : slice_get us (place_before (place_left move) i) ≡ Some user
    pub same : reach V fs user (e.0, node) ≡ reach V gs w e

  old_cell : (move : UserChange) (e : PathOf × Node) (i : ℕ) (w : Person) → IsKept move e i w
      → option_and_then (λ (cells : List ℕ). slice_get cells (place_before (place_left move) i)) (find path_cmp e.0 (reached_rows (rows_of V us fs))) ≡ Some (reach V gs w e)
  old_cell move e i w k =
      let j = place_before (place_left move) i in
      ap (option_and_then (λ (cells : List ℕ). slice_get cells j)) (reached_is V us fs e.0)
      ∙ cell_reached V us fs e.0 j (find path_cmp e.0 fs)
      ∙ ap (option_and_then (λ n. option_map (λ u. reach V fs u (e.0, n)) (slice_get us j))) k.found
      ∙ ap (option_map (λ u. reach V fs u (e.0, k.node))) k.was
      ∙ ap Some k.same

  abbrev row_cells : PathOf × Node → List ℕ
  row_cells e = reached_from (rows_of V ws gs) e.0 0 (cells_of V ws e.1)

  abbrev row_test : UserChange → PathOf × Node → ℕ → ℕ → Bool
  row_test move e = is_as_in (place_left move) (find path_cmp e.0 (reached_rows (rows_of V us fs)))

  cell_kept : (move : UserChange) (e : PathOf × Node) (i c : ℕ) → slice_get (row_cells e) i ≡ Some c → ((w : Person) → slice_get ws i ≡ Some w → IsKept move e i w) → row_test move e i c ≡ true
  cell_kept move e i c is kept = by (slice_get ws i) refl (sym (cell_reached V ws gs e.0 i (Some e.1)) ∙ is)
    where
      by : (o : Option Person) → slice_get ws i ≡ o → option_map (λ u. reach V gs u (e.0, e.1)) (slice_get ws i) ≡ Some c → row_test move e i c ≡ true
      by None none h = absurd (nothing (option_map (λ u. reach V gs u (e.0, e.1)) (slice_get ws i)) (ap (option_map (λ u. reach V gs u (e.0, e.1))) none) h)
        where
          nothing : (o : Option ℕ) → o ≡ None → o ≡ Some c → ⊥
          nothing o h k = cc
      by (Some w) here h =
          let value : reach V gs w e ≡ c = some_same (reach V gs w e) c (sym (ap (option_map (λ u. reach V gs u (e.0, e.1))) here) ∙ h) in
          ap (λ o. is_as_before o c) (old_cell move e i w (kept w here)) ∙ eq-eqb (reach V gs w e) c value

  abbrev pub row_missed : UserChange → PathOf × Node → ℕ
  row_missed move e = fails_from (row_test move e) 0 (row_cells e)

  row_most : (move : UserChange) (e : PathOf × Node) → row_missed move e ≤ length ws
  row_most move e = omega (arith, missed_most (row_test move e) 0 (row_cells e), long_row (rows_of V ws gs) e.0 0 (cells_of V ws e.1), length-map ws (λ u. V u e.1.label))

  from_none : (i : ℕ) → 0 + i ≡ i
  from_none i = omega arith

  row_none : (move : UserChange) (e : PathOf × Node) → ((i : ℕ) (w : Person) → slice_get ws i ≡ Some w → IsKept move e i w) → row_missed move e ≡ 0
  row_none move e kept = missed_none (row_test move e) 0 (row_cells e) (λ i c is. ap (λ k. row_test move e k c) (from_none i) ∙ cell_kept move e i c is (kept i))

  row_one : (move : UserChange) (j : ℕ) (e : PathOf × Node) → ((i : ℕ) (w : Person) → slice_get ws i ≡ Some w → (i ≡ j → ⊥) → IsKept move e i w) → row_missed move e ≤ 1
  row_one move j e kept =
      missed_one (row_test move e) j 0 (row_cells e)
      (λ i c is apart. ap (λ k. row_test move e k c) (from_none i) ∙ cell_kept move e i c is (λ w here. kept i w here (λ same. apart (from_none i ∙ same))))

  -- as many are missed as each file allows
  rows_missed : (move : UserChange) (a : PathOf × Node → ℕ) → ((e : PathOf × Node) → find path_cmp e.0 gs ≡ Some e.1 → row_missed move e ≤ a e)
      → differing (place_left move) (reached_rows (rows_of V us fs)) (reached_rows (rows_of V ws gs)) ≤ sum_by a gs
  rows_missed move a h =
      let A = reached_rows (rows_of V us fs) in
      let F : PathOf × List ℕ → ℕ = λ r. fails_from (is_as_in (place_left move) (find path_cmp r.0 A)) 0 r.1 in
      let G : PathOf × List ℕ → PathOf × List ℕ = λ r. (r.0, reached_from (rows_of V ws gs) r.0 0 r.1) in
      let H : PathOf × Node → PathOf × List ℕ = λ e. (e.0, cells_of V ws e.1) in
      subst (λ n. n ≤ sum_by a gs) (ap (sum_by F) (sym (map_twice H G gs)))
      (sum_le (λ (e : PathOf × Node). G (H e)) F a (λ e. find path_cmp e.0 gs ≡ Some e.1) gs (finds gs [] gs refl go) h)

  -- ---- what is the same at a path and above it is reached alike

  module _ (u w : Person) (p : PathOf)
      (h : (q : PathOf) → encloses q p ≡ true → option_map (λ (n : Node). V u n.label) (find path_cmp q fs) ≡ option_map (λ (n : Node). V w n.label) (find path_cmp q gs)) where
    passes_kept : passes V fs u p ≡ passes V gs w p
    passes_kept =
        alike_above (λ (n : Node). has (V u n.label) execute) (λ (n : Node). has (V w n.label) execute) p fs gs fo go
        (λ q below. twice u (find path_cmp q fs) ∙ ap (option_map (λ c. has c execute)) (h q (below_within q p below)) ∙ sym (twice w (find path_cmp q gs)))
      where
        twice : (v : Person) (o : Option Node) → option_map (λ (n : Node). has (V v n.label) execute) o ≡ option_map (λ c. has c execute) (option_map (λ (n : Node). V v n.label) o)
        twice v None = refl
        twice v (Some n) = refl

    reach_kept : (m n : Node) → find path_cmp p fs ≡ Some m → find path_cmp p gs ≡ Some n → reach V fs u (p, m) ≡ reach V gs w (p, n)
    reach_kept m n here there =
        let value : V u m.label ≡ V w n.label =
        some_same (V u m.label) (V w n.label) (sym (ap (option_map (λ (n : Node). V u n.label)) here) ∙ h p (within_itself p) ∙ ap (option_map (λ (n : Node). V w n.label)) there) in
        λ i. if passes_kept i then value i else 0

  -- ---- files that neither changed nor lie below one that did

  module _ (apart : AllByRecursion (λ e. holds_below gs e.0 ≡ false) (gone_between fs gs)) (p : PathOf) (n : Node) (here : find path_cmp p gs ≡ Some n)
      (out : lies_in (changed_between fs gs) p ≡ false) where
    not_changed : (q : PathOf) (m : Node) → encloses q p ≡ true → find path_cmp q gs ≡ Some m → is_changed fs (q, m) ≡ false
    not_changed q m w is =
        let none = any_found (λ e. is_changed fs e && encloses e.0 p) gs q m (sym (any_filter (λ e. encloses e.0 p) (is_changed fs) gs) ∙ out) is in
        false_from (is_changed fs (q, m)) (λ c. not_both (is_changed fs (q, m) && encloses q p) (and_from _ _ c w) none)

    not_gone : (q : PathOf) (m : Node) → encloses q p ≡ true → find path_cmp q gs ≡ None → find path_cmp q fs ≡ Some m → ⊥
    not_gone q m w none is =
        let left = each_found (λ r. holds_below gs r ≡ false) (λ e. not (is_some (find path_cmp e.0 gs))) fs q m apart is (ap (λ o. not (is_some o)) none) in
        let below = any_found (λ e. is_above q e.0) gs p n left here in
        differ (find path_cmp q gs) none (ap (λ r. find path_cmp r gs) (within_cases q p w below) ∙ here)
      where
        differ : (o : Option Node) → o ≡ None → o ≡ Some n → ⊥
        differ o h k = cc

    labels_kept : (q : PathOf) → encloses q p ≡ true → option_map (λ (m : Node). m.label) (find path_cmp q fs) ≡ option_map (λ (m : Node). m.label) (find path_cmp q gs)
    labels_kept q w = by (find path_cmp q fs) (find path_cmp q gs) refl refl
      where
        reported : (a b : Label) → not (same_label a b) ≡ false → a ≡ b
        reported a b h = label_is_same a b (yes (same_label a b) h)
          where
            yes : (b : Bool) → not b ≡ false → b ≡ true
            yes true h = refl
            yes false h = cc

        new_one : (m : Node) → find path_cmp q fs ≡ None → find path_cmp q gs ≡ Some m → ⊥
        new_one m was is = not_both true refl (ap (λ o. option_map_or (λ (k : Node). not (same_label k.label m.label)) o true) (sym was) ∙ not_changed q m w is)

        by : (a b : Option Node) → find path_cmp q fs ≡ a → find path_cmp q gs ≡ b → option_map (λ (m : Node). m.label) a ≡ option_map (λ (m : Node). m.label) b
        by None None was is = refl
        by None (Some m) was is = absurd (new_one m was is)
        by (Some k) None was is = absurd (not_gone q k w is was)
        by (Some k) (Some m) was is = ap Some (reported k.label m.label (ap (λ o. option_map_or (λ (k : Node). not (same_label k.label m.label)) o true) (sym was) ∙ not_changed q m w is))

    verdicts_kept : (u : Person) (q : PathOf) → encloses q p ≡ true → option_map (λ (n : Node). V u n.label) (find path_cmp q fs) ≡ option_map (λ (n : Node). V u n.label) (find path_cmp q gs)
    verdicts_kept u q w = twice (find path_cmp q fs) ∙ ap (option_map (V u)) (labels_kept q w) ∙ sym (twice (find path_cmp q gs))
      where
        twice : (o : Option Node) → option_map (λ (n : Node). V u n.label) o ≡ option_map (V u) (option_map (λ (n : Node). n.label) o)
        twice None = refl
        twice (Some n) = refl

    was_there : (o : Option Node) → find path_cmp p fs ≡ o → (m : Node) × (find path_cmp p fs ≡ Some m)
    was_there None is = absurd (gone (ap (option_map (λ (m : Node). m.label)) (sym is) ∙ labels_kept p (within_itself p) ∙ ap (option_map (λ (m : Node). m.label)) here))
      where
        gone : None ≡ Some n.label → ⊥
        gone h = cc
    was_there (Some m) is = (m, is)

  -- ---- how much a line misses

  abbrev old_reached : Rows
  old_reached = reached_rows (rows_of V us fs)

  abbrev new_reached : Rows
  new_reached = reached_rows (rows_of V ws gs)

  -- never more than every user at every file
  all_missed : (move : UserChange) → differing (place_left move) old_reached new_reached ≤ length gs * length ws
  all_missed move =
      let each = rows_missed move (λ e. length ws) (λ e found. row_most move e) in
      let sum = evenly (length ws) gs in
      omega (arith, each, sum)
    where
      even_more : (n l : ℕ) → suc n * l ≡ l + n * l
      even_more n l = grind arith

      evenly : (l : ℕ) (es : Files) → sum_by (λ e. l) es ≡ length es * l
      evenly l [] = let e : 0 * l ≡ 0 = grind arith in omega (arith, e)
      evenly l (e ∷ es) =
          let more = evenly l es in
          let first = sum_by-cons (λ e. l) e es in
          omega (arith, first, more, even_more (length es) l)

  -- all users at files that changed, and others at as many as are reported
  module _ (move : UserChange) (x : PathOf × Node → ℕ) (rest : (e : PathOf × Node) → find path_cmp e.0 gs ≡ Some e.1 → lies_in (changed_between fs gs) e.0 ≡ false → row_missed move e ≤ x e) where
    parts_missed : differing (place_left move) old_reached new_reached ≤ length ws * count_by (λ (e : PathOf × Node). lies_in (changed_between fs gs) e.0) gs + sum_by x gs
    parts_missed =
        let l = length ws in
        let c = λ (e : PathOf × Node). lies_in (changed_between fs gs) e.0 in
        let each = rows_missed move (λ e. l * (if c e then 1 else 0) + x e) (λ e found. by e found (c e) refl) in
        omega (arith, each, sum_parts l c x gs)
      where
        by : (e : PathOf × Node) → find path_cmp e.0 gs ≡ Some e.1 → (b : Bool) → lies_in (changed_between fs gs) e.0 ≡ b → row_missed move e ≤ length ws * (if b then 1 else 0) + x e
        by e found true is = omega (arith, row_most move e, times_one (length ws))
        by e found false is = omega (arith, rest e found is, times_none (length ws))

  -- a user with the same groups keeps the answers at files that neither changed nor lie below one that did
  module _ (apart : AllByRecursion (λ e. holds_below gs e.0 ≡ false) (gone_between fs gs)) where
    same_kept : (move : UserChange) (e : PathOf × Node) → find path_cmp e.0 gs ≡ Some e.1 → lies_in (changed_between fs gs) e.0 ≡ false → (i : ℕ) (w : Person)
        → slice_get us (place_before (place_left move) i) ≡ Some w → IsKept move e i w
    same_kept move e found out i w was =
        let there = was_there apart e.0 e.1 found out (find path_cmp e.0 fs) refl in
        record {
          node = there.0;
          user = w;
          found = there.1;
          was = was;
          same = reach_kept w w e.0 (verdicts_kept apart e.0 e.1 found out w) there.0 e.1 there.1 found;
        }

    -- no user moved
    none_moved : (move : UserChange) → ((i : ℕ) (w : Person) → slice_get ws i ≡ Some w → slice_get us (place_before (place_left move) i) ≡ Some w)
        → differing (place_left move) old_reached new_reached ≤ length ws * count_by (λ (e : PathOf × Node). lies_in (changed_between fs gs) e.0) gs
    none_moved move was =
        let parts = parts_missed move (λ e. 0) (λ e found out. let n = row_none move e (λ i w is. same_kept move e found out i w (was i w is)) in omega (arith, n)) in
        omega (arith, parts, zeros gs)
      where
        zeros : (es : Files) → sum_by (λ e. 0) es ≡ 0
        zeros [] = refl
        zeros (e ∷ es) = let first = sum_by-cons (λ e. 0) e es in let more = zeros es in omega (arith, first, more)

    -- one user moved, as one who wasn't there
    one_came : (move : UserChange) (j : ℕ) → ((i : ℕ) (w : Person) → slice_get ws i ≡ Some w → (i ≡ j → ⊥) → slice_get us (place_before (place_left move) i) ≡ Some w)
        → differing (place_left move) old_reached new_reached ≤ length ws * count_by (λ (e : PathOf × Node). lies_in (changed_between fs gs) e.0) gs + length gs
    one_came move j was =
        let parts = parts_missed move (λ e. 1) (λ e found out. row_one move j e (λ i w is other. same_kept move e found out i w (was i w is other))) in
        omega (arith, parts, ones gs)
      where
        ones : (es : Files) → sum_by (λ e. 1) es ≡ length es
        ones [] = refl
        ones (e ∷ es) = let first = sum_by-cons (λ e. 1) e es in let more = ones es in omega (arith, first, more)

    -- one user moved, whose answers differ where a label does that mentions a group
    one_moved : (move : UserChange) (j : ℕ) (c : PathOf × Node → Bool) → ((i : ℕ) (w : Person) → slice_get ws i ≡ Some w → (i ≡ j → ⊥) → slice_get us (place_before (place_left move) i) ≡ Some w)
        → ((i : ℕ) (w : Person) (e : PathOf × Node) → slice_get ws i ≡ Some w → i ≡ j → find path_cmp e.0 gs ≡ Some e.1 → c e ≡ false → IsKept move e i w)
        → differing (place_left move) old_reached new_reached ≤ length ws * count_by (λ (e : PathOf × Node). lies_in (changed_between fs gs) e.0) gs + count_by c gs
    one_moved move j c was here =
        parts_missed move (λ e. if c e then 1 else 0) (λ e found out. by e found out (c e) refl)
      where
        by : (e : PathOf × Node) → find path_cmp e.0 gs ≡ Some e.1 → lies_in (changed_between fs gs) e.0 ≡ false → (b : Bool) → c e ≡ b → row_missed move e ≤ (if b then 1 else 0)
        by e found out true is = row_one move j e (λ i w at other. same_kept move e found out i w (was i w at other))
        by e found out false is =
            let n = row_none move e (λ i w at. pick i w at (eqb i j) refl) in omega (arith, n)
          where
            pick : (i : ℕ) (w : Person) → slice_get ws i ≡ Some w → (b : Bool) → eqb i j ≡ b → IsKept move e i w
            pick i w at true same = here i w e at (eqb-true i j same) found is
            pick i w at false other = same_kept move e found out i w (was i w at (λ same. not_both (eqb i j) (eq-eqb i j same) other))

-- ---- a line

module _ (V : Verdict) (local : (u w : Person) (f : Label) → AgreeOnMentions u w f → V u f ≡ V w f) (rows : Rows) (t : StagedState) (goes : GoesFrom V rows t)
    (ro : IsInOrder rows) (go : IsInOrder t.state.tree.files) where
  abbrev us : List Person
  us = persons goes.state.people

  abbrev ws : List Person
  ws = persons t.state.people

  abbrev fs : Files
  fs = goes.state.tree.files

  abbrev gs : Files
  gs = t.state.tree.files

  pub fo : IsInOrder fs
  fo = old_order V rows t goes ro

  alone : AllByRecursion (λ e. holds_below gs e.0 ≡ false) (gone_between fs gs)
  alone = subst (AllByRecursion (λ e. holds_below gs e.0 ≡ false)) goes.reports.gone goes.reports.apart

  abbrev line_missed : UserChange → ℕ
  line_missed move = differing (place_left move) (reached_rows (rows_of V us fs)) (reached_rows (rows_of V ws gs))

  abbrev at_changed : ℕ
  at_changed = length ws * count_by (λ (e : PathOf × Node). lies_in (changed_between fs gs) e.0) gs

  line_same : t.user_change ≡ Unchanged → line_missed Unchanged ≤ at_changed + 0
  line_same is =
      let people : persons t.state.people ≡ persons goes.state.people = subst (λ m. UsersMoved goes.state t.state m) is goes.reports.users in
      let n = none_moved V us ws fs gs fo go alone Unchanged (λ i w got. ap (λ (l : List Person). slice_get l i) (sym people) ∙ got) in
      omega (arith, n)

  line_loaded : t.user_change ≡ Loaded → line_missed Loaded ≤ at_changed + 0
  line_loaded is =
      let none : gs ≡ [] = subst (λ m. UsersMoved goes.state t.state m) is goes.reports.users in
      let n = all_missed V us ws fs gs fo go Loaded in
      let long : length gs * length ws ≡ 0 = ap (λ (l : Files). length l * length ws) none ∙ nothing (length ws) in
      omega (arith, n, long)
    where
      nothing : (l : ℕ) → 0 * l ≡ 0
      nothing l = grind arith

  line_moved : (at : ℕ) (groups : List ℕ) → t.user_change ≡ Memberships at groups
      → line_missed (Memberships at groups) ≤ at_changed + count_by (λ (e : PathOf × Node). lies_in (filter (mentions_one groups) gs) e.0) gs
  line_moved at groups is =
      one_moved V us ws fs gs fo go alone (Memberships at groups) at (λ (e : PathOf × Node). lies_in (filter (mentions_one groups) gs) e.0) others him
    where
      m : MovesUser us ws at groups
      m = (moves V rows t goes at groups is).1

      files : fs ≡ gs
      files = ap (λ (r : Recorded). r.files) (sym (moves V rows t goes at groups is).0)

      others : (i : ℕ) (w : Person) → slice_get ws i ≡ Some w → (i ≡ at → ⊥) → slice_get us i ≡ Some w
      others i w got other = sym (ap (λ (l : List Person). slice_get l i) m.change.becomes ∙ set_other us at i m.change.after other) ∙ got

      next_is : (i : ℕ) (w : Person) → slice_get ws i ≡ Some w → i ≡ at → m.change.after ≡ w
      next_is i w got same =
          person_same m.change.after w
          (sym (ap (λ (l : List Person). slice_get l at) m.change.becomes ∙ set_here us at m.change.after (got_in us at m.change.before m.change.was)) ∙ ap (slice_get ws) (sym same) ∙ got)

      verdicts : (w : Person) → m.change.after ≡ w → (e : PathOf × Node) → lies_in (filter (mentions_one groups) gs) e.0 ≡ false → (q : PathOf) → encloses q e.0 ≡ true
          → option_map (λ (n : Node). V m.change.before n.label) (find path_cmp q fs) ≡ option_map (λ (n : Node). V w n.label) (find path_cmp q gs)
      verdicts w next e out q within = ap (λ (l : Files). option_map (λ (n : Node). V m.change.before n.label) (find path_cmp q l)) files ∙ by (find path_cmp q gs) refl
        where
          by : (o : Option Node) → find path_cmp q gs ≡ o → option_map (λ (n : Node). V m.change.before n.label) o ≡ option_map (λ (n : Node). V w n.label) o
          by None here = refl
          by (Some n) here =
              let none = any_found (λ x. mentions_one groups x && encloses x.0 e.0) gs q n (sym (any_filter (λ x. encloses x.0 e.0) (mentions_one groups) gs) ∙ out) here in
              let unmet = false_from (mentions_one groups (q, n)) (λ c. not_both (mentions_one groups (q, n) && encloses q e.0) (and_from _ _ c within) none) in
              ap Some (sym (local m.change.after m.change.before n.label (agree us ws at groups m n.label unmet)) ∙ ap (λ u. V u n.label) next)

      him : (i : ℕ) (w : Person) (e : PathOf × Node) → slice_get ws i ≡ Some w → i ≡ at → find path_cmp e.0 gs ≡ Some e.1
          → lies_in (filter (mentions_one groups) gs) e.0 ≡ false → IsKept V us ws fs gs fo go (Memberships at groups) e i w
      him i w e got same found out =
          let there : find path_cmp e.0 fs ≡ Some e.1 = ap (find path_cmp e.0) files ∙ found in
          record {
            node = e.1;
            user = m.change.before;
            found = there;
            was = ap (slice_get us) same ∙ m.change.was;
            same = reach_kept V us ws fs gs fo go m.change.before w e.0 (verdicts w (next_is i w got same) e out) e.1 e.1 there found;
          }

  line_joined : t.user_change ≡ Added → line_missed Added ≤ at_changed + length gs
  line_joined is =
      let j = (joins V rows t goes is).1 in
      one_came V us ws fs gs fo go alone Added (length us) (λ i w got other. joined_was us j.next i w (sym (ap (λ (l : List Person). slice_get l i) j.becomes) ∙ got) other)

  line_left : (at : ℕ) → t.user_change ≡ Removed at → line_missed (Removed at) ≤ at_changed + 0
  line_left at is =
      let j = (leaves V rows t goes at is).1 in
      let n = none_moved V us ws fs gs fo go alone (Removed at) (λ i w got. sym (ap (λ (l : List Person). slice_get l i) j.becomes ∙ left_was us at i) ∙ got) in
      omega (arith, n)

  line : (move : UserChange) → t.user_change ≡ move → line_missed move ≤ at_changed + moves_refreshed move gs
  line Unchanged is = line_same is
  line Loaded is = line_loaded is
  line (Memberships at groups) is = line_moved at groups is
  line Added is = line_joined is
  line (Removed at) is = line_left at is

  is_there : reached_rows rows ≡ reached_rows (rows_of V us fs)
  is_there = ap reached_rows goes.rows_are

  -- ---- as many as paths are counted, where each user's answers at the others are as before

  module _ (c : PathOf → Bool) (zero : (e : PathOf × Node) → find path_cmp e.0 gs ≡ Some e.1 → c e.0 ≡ false → row_missed V us ws fs gs fo go Unchanged e ≡ 0) where
    pub files_counted : differing None (reached_rows rows) (reached_rows (rows_of V ws gs)) ≤ length ws * count_by (λ (e : PathOf × Node). c e.0) gs
    files_counted =
        let each = rows_missed V us ws fs gs fo go Unchanged (λ e. length ws * (if c e.0 then 1 else 0) + 0) (λ e found. by e found (c e.0) refl) in
        let parts = sum_parts (length ws) (λ (e : PathOf × Node). c e.0) (λ e. 0) gs in
        subst (λ (old : Rows). differing None old (reached_rows (rows_of V ws gs)) ≤ length ws * count_by (λ (e : PathOf × Node). c e.0) gs) (sym is_there)
        (omega (arith, each, parts, zeros gs))
      where
        zeros : (es : Files) → sum_by (λ e. 0) es ≡ 0
        zeros [] = refl
        zeros (e ∷ es) = let first = sum_by-cons (λ e. 0) e es in let more = zeros es in omega (arith, first, more)

        by : (e : PathOf × Node) → find path_cmp e.0 gs ≡ Some e.1 → (b : Bool) → c e.0 ≡ b → row_missed V us ws fs gs fo go Unchanged e ≤ length ws * (if b then 1 else 0) + 0
        by e found true is = omega (arith, row_most V us ws fs gs fo go Unchanged e, times_one (length ws))
        by e found false is = omega (arith, zero e found is, times_none (length ws))

    pub moved_counted : (at : ℕ) (groups : List ℕ) → t.user_change ≡ Memberships at groups
        → differing None (reached_rows rows) (reached_rows (rows_of V ws gs)) ≤ count_by (λ (e : PathOf × Node). c e.0) gs
    moved_counted at groups is =
        let each = rows_missed V us ws fs gs fo go (Memberships at groups) (λ e. if c e.0 then 1 else 0) (λ e found. by e found (c e.0) refl) in
        subst (λ (old : Rows). differing None old (reached_rows (rows_of V ws gs)) ≤ count_by (λ (e : PathOf × Node). c e.0) gs) (sym is_there) each
      where
        m : MovesUser us ws at groups
        m = (moves V rows t goes at groups is).1

        files : fs ≡ gs
        files = ap (λ (r : Recorded). r.files) (sym (moves V rows t goes at groups is).0)

        others : (i : ℕ) (w : Person) → slice_get ws i ≡ Some w → (i ≡ at → ⊥) → slice_get us i ≡ Some w
        others i w got other = sym (ap (λ (l : List Person). slice_get l i) m.change.becomes ∙ set_other us at i m.change.after other) ∙ got

        kept : (e : PathOf × Node) → find path_cmp e.0 gs ≡ Some e.1 → (i : ℕ) (w : Person) → slice_get us i ≡ Some w → IsKept V us ws fs gs fo go (Memberships at groups) e i w
        kept e found i w was =
            let there : find path_cmp e.0 fs ≡ Some e.1 = ap (find path_cmp e.0) files ∙ found in
            record {
              node = e.1;
              user = w;
              found = there;
              was = was;
              same = reach_kept V us ws fs gs fo go w w e.0 (λ q within. ap (λ (l : Files). option_map (λ (n : Node). V w n.label) (find path_cmp q l)) files) e.1 e.1 there found;
            }

        by : (e : PathOf × Node) → find path_cmp e.0 gs ≡ Some e.1 → (b : Bool) → c e.0 ≡ b → row_missed V us ws fs gs fo go (Memberships at groups) e ≤ (if b then 1 else 0)
        by e found true is = row_one V us ws fs gs fo go (Memberships at groups) at e (λ i w got other. kept e found i w (others i w got other))
        by e found false is = let n = zero e found is in omega (arith, n)

  pub line_most : differing (place_left t.user_change) (reached_rows rows) (reached_rows (rows_of V ws gs)) ≤ verdicts_refreshed t
  line_most =
      let parts = line t.user_change refl in
      let all : at_changed ≡ length t.state.people.users * count_by (λ (e : PathOf × Node). lies_in t.changed e.0) gs =
      (let long = length-map t.state.people.users _ in let reported = sym goes.reports.changed in λ i. long i * count_by (λ (e : PathOf × Node). lies_in (reported i) e.0) gs) in
      subst (λ (r : Rows). differing (place_left t.user_change) r (reached_rows (rows_of V ws gs)) ≤ verdicts_refreshed t) (sym is_there) (omega (arith, parts, all))
