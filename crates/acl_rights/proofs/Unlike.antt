-- How many answers along paths a line changes, by a count of the paths at which some answer is another one.
use Rattle.std.proofs.Common.{◌≡◌, ℕ, ◌+◌, ◌*◌, ◌≤◌, Bool, true, false, not, eqb, cond, List, [], ◌∷◌, length, map, Option, Some, None, refl, sym, ap, subst, ◌∙◌, arith}
use Rattle.std.specs.Prelude.{option_map, option_and_then, slice_get, count_by}
use Rattle.std.specs.FinMap.{find}
use Rattle.std.proofs.lemmas.Bool.{eqb-true, eq-eqb}
use Rattle.std.proofs.lemmas.List.Sums.{sum_by-cons}
use Rattle.acl_entry.specs.Mentions.{AgreeOnMentions}
use Rattle.acl_entry.specs.Person.{Person}
use Rattle.acl_entry.specs.declared.label.Label.{Label}
use Rattle.acl_names.specs.Paths.{path_cmp, PathOf}
use Rattle.acl_edit.specs.declared.node.Node.{Node}
use Rattle.path_map.specs.Entries.{IsInOrder}
use Rattle.acl_people.specs.KnownPeople.{persons}
use Rattle.acl_tree.specs.Files.{Files}
use Rattle.acl_tree.specs.Reports.{StagedState}
use Rattle.acl_tree.specs.declared.user_change.UserChange.{UserChange}
use Rattle.acl_tree.specs.declared.user_change.UserChange.TheVariants.{Unchanged, Memberships}
use Rattle.kinds.specs.Kinds.{KindsOf, node_at}
use Rattle.kinds.specs.Numbered.{Kept, Numbers, with_node, entries_by, entries_in}
use Rattle.path_classes.specs.declared.label_row.LabelRow.{LabelRow}
use Rattle.path_classes.specs.ClassedRows.{SameAnswers, AreCounted}
use Rattle.path_classes.specs.KindRows.{RowedPaths, rows_at}
use Rattle.path_classes.specs.ReachedRows.{reached_from, reached_rows}
use Rattle.path_classes.specs.Rows.{Rows}
use Rattle.path_classes.proofs.Maps.{find-values, times_le}
use Rattle.path_classes.proofs.Searched.{find_reached}
use Rattle.acl_rights.specs.Differing.{is_as_before, is_as_in, fails_from, differing}
use Rattle.acl_rights.specs.Kept.{GoesFrom}
use Rattle.acl_rights.specs.KindRows.{rowed}
use Rattle.acl_rights.specs.Lines.{AreBefore}
use Rattle.acl_rights.specs.Reach.{unlike, verdicts_refreshed}
use Rattle.acl_rights.specs.Rows.{Verdict, cells_of, rows_of}
use Rattle.acl_rights.proofs.RowCounts.{missed_none}
use Rattle.acl_rights.proofs.Refreshing.{count_paths}
use Rattle.acl_rights.proofs.Goes.{old_order}
use Rattle.acl_rights.proofs.Orders.{in_order-values}
use Rattle.acl_rights.proofs.Refreshed.{row_missed, files_counted, moved_counted, line_most}
use Rattle.acl_rights.proofs.Rowed.{rowed_rows}

-- no more entries than numbers
pub entries_fewer : {N : Type 0} (test : PathOf → Bool) (k : KindsOf N) (ns : Numbers) → count_by (λ e. test e.0) (entries_by k ns) ≤ count_by (λ e. test e.0) ns
entries_fewer test k [] = omega arith
entries_fewer {N = N} test k (e ∷ ns) =
    let more = entries_fewer test k ns in
    let all = sum_by-cons (λ (x : PathOf × ℕ). cond (test x.0) 1 0) e ns in
    omega (arith, by (node_at k e.1), more, all)
  where
    by : (o : Option N) → count_by (λ (x : PathOf × N). test x.0) (with_node e.0 o (entries_by k ns)) ≤ cond (test e.0) 1 0 + count_by (λ (x : PathOf × N). test x.0) (entries_by k ns)
    by None = omega arith
    by (Some x) = let first = sum_by-cons (λ (y : PathOf × N). cond (test y.0) 1 0) (e.0, x) (entries_by k ns) in omega (arith, first)

times_more : (l a b : ℕ) → a ≤ b → l * a ≤ l * b
times_more l a b le =
    let e : a * l ≡ l * a = grind arith in
    let f : b * l ≡ l * b = grind arith in
    let h = times_le a b l le in
    omega (arith, e, f, h)

module _ (old new : Kept LabelRow) where
  abbrev was : Rows
  was = reached_rows (rows_at (entries_in old))

  abbrev is : Rows
  is = rows_at (entries_in new)

  -- how many verdicts of a row are other ones than before
  abbrev missed : PathOf → List ℕ → ℕ
  missed p cells = fails_from (is_as_in None (find path_cmp p was)) 0 cells

  abbrev some_missed : PathOf → Option (List ℕ) → Bool
  some_missed p None = false
  some_missed p (Some cells) = not (eqb (missed p cells) 0)

  -- whether some answer at a path is another one
  abbrev differs : PathOf → Bool
  differs p = some_missed p (find path_cmp p (reached_rows is))

  from_none : (i : ℕ) → 0 + i ≡ i
  from_none i = omega arith

  same_missed : (p : PathOf) → SameAnswers old new p → differs p ≡ false
  same_missed p same = by (find path_cmp p (reached_rows is)) refl
    where
      by : (o : Option (List ℕ)) → find path_cmp p (reached_rows is) ≡ o → some_missed p o ≡ false
      by None here = refl
      by (Some cells) here =
          ap (λ n. not (eqb n 0))
          (missed_none (is_as_in None (find path_cmp p was)) 0 cells
          (λ i c got.
          ap (λ k. is_as_in None (find path_cmp p was) k c) (from_none i)
          ∙ ap (λ o. is_as_before o c) (same i ∙ ap (option_and_then (λ (l : List ℕ). slice_get l i)) here ∙ got)
          ∙ eq-eqb c c refl))

  counted_paths : (fs : List (PathOf × Node)) → map (λ (e : PathOf × LabelRow). e.0) (entries_in new) ≡ map (λ (f : PathOf × Node). f.0) fs
      → count_by (λ (f : PathOf × Node). differs f.0) fs ≤ count_by (λ (e : PathOf × ℕ). differs e.0) new.1
  counted_paths fs paths =
      let same = count_paths differs (entries_in new) fs paths in
      let few = entries_fewer differs new.0 new.1 in
      omega (arith, same, few)

  module _ (V : Verdict) (local : (u w : Person) (f : Label) → AgreeOnMentions u w f → V u f ≡ V w f) (t : StagedState) (goes : GoesFrom V (rows_at (entries_in old)) t)
      (ro : IsInOrder (rows_at (entries_in old))) (go : IsInOrder t.state.tree.files) (rows_are : is ≡ rows_of V (persons t.state.people) t.state.tree.files)
      (paths : map (λ (e : PathOf × LabelRow). e.0) (entries_in new) ≡ map (λ (f : PathOf × Node). f.0) t.state.tree.files) (n : ℕ) (counted : AreCounted old new n) where
    abbrev us : List Person
    us = persons goes.state.people

    abbrev ws : List Person
    ws = persons t.state.people

    abbrev fs : Files
    fs = goes.state.tree.files

    abbrev gs : Files
    gs = t.state.tree.files

    few : count_by (λ (f : PathOf × Node). differs f.0) gs ≤ n
    few = let c = counted differs same_missed in let p = counted_paths gs paths in omega (arith, c, p)

    zero : (e : PathOf × Node) → find path_cmp e.0 gs ≡ Some e.1 → differs e.0 ≡ false → row_missed V us ws fs gs (old_order V (rows_at (entries_in old)) t goes ro) go Unchanged e ≡ 0
    zero e found none =
        ap (λ (l : Rows). fails_from (is_as_in None (find path_cmp e.0 (reached_rows l))) 0 cells) (sym goes.rows_are)
        ∙ eqb-true (missed e.0 cells) 0 (yes (eqb (missed e.0 cells) 0) (sym (ap (some_missed e.0) here) ∙ none))
      where
        cells : List ℕ
        cells = reached_from (rows_of V ws gs) e.0 0 (cells_of V ws e.1)

        here : find path_cmp e.0 (reached_rows is) ≡ Some cells
        here =
            ap (λ (l : Rows). find path_cmp e.0 (reached_rows l)) rows_are
            ∙ find_reached e.0 (rows_of V ws gs)
            ∙ ap (option_map (reached_from (rows_of V ws gs) e.0 0)) (find-values (cells_of V ws) e.0 gs ∙ ap (option_map (cells_of V ws)) found)

        yes : (b : Bool) → not b ≡ false → b ≡ true
        yes true h = refl
        yes false h = cc

    -- files changed: all users at the paths that are counted
    pub files_unlike : t.user_change ≡ Unchanged → unlike t.user_change (rows_at (entries_in old)) is ≤ n * length ws
    files_unlike same =
        let all = files_counted V local (rows_at (entries_in old)) t goes ro go differs zero in
        let less = times_more (length ws) (count_by (λ (f : PathOf × Node). differs f.0) gs) n few in
        let turned : length ws * n ≡ n * length ws = grind arith in
        subst (λ (c : UserChange). unlike c (rows_at (entries_in old)) is ≤ n * length ws) (sym same)
        (subst (λ (l : Rows). differing None was (reached_rows l) ≤ n * length ws) (sym rows_are) (omega (arith, all, less, turned)))

    -- a user joined or left groups: that user at the paths that are counted
    pub moved_unlike : (at : ℕ) (groups : List ℕ) → t.user_change ≡ Memberships at groups → unlike t.user_change (rows_at (entries_in old)) is ≤ n
    moved_unlike at groups same =
        let all = moved_counted V local (rows_at (entries_in old)) t goes ro go differs zero at groups same in
        subst (λ (c : UserChange). unlike c (rows_at (entries_in old)) is ≤ n) (sym same)
        (subst (λ (l : Rows). differing None was (reached_rows l) ≤ n) (sym rows_are) (omega (arith, all, few)))

-- lines whose count is a sum of the state after them
module _ (V : Verdict) (local : (u w : Person) (f : Label) → AgreeOnMentions u w f → V u f ≡ V w f) (es : RowedPaths) (t : StagedState) (b : AreBefore V es t) (ordered : IsInOrder es)
    (order : IsInOrder t.state.tree.files) where
  pub as_refreshed : (new : RowedPaths) (count : ℕ) → new ≡ rowed V (persons t.state.people) t.state.tree.files → count ≡ verdicts_refreshed t → unlike t.user_change (rows_at es) (rows_at new) ≤ count
  as_refreshed new count are same =
      let most = line_most V local (rows_at es) t b.goes (in_order-values (λ (e : PathOf × LabelRow). e.1.row) es ordered) order in
      subst (λ (rs : Rows). unlike t.user_change (rows_at es) rs ≤ count) (sym (rowed_rows V (persons t.state.people) new t.state.tree.files are))
      (subst (λ k. unlike t.user_change (rows_at es) (rows_of V (persons t.state.people) t.state.tree.files) ≤ k) (sym same) most)
