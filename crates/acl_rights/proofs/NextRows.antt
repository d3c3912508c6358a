-- The rows after a line are those of the state after it.
use Rattle.std.proofs.Common.{◌≡◌, ℕ, ◌*◌, ◌-◌, ◌≤◌, ◌++◌, List, [], ◌∷◌, length, map, filter, Some, refl, sym, ap, subst, ◌∙◌, arith}
use Rattle.std.specs.Prelude.{count_by, slice_get, Result, Ok, Err, IfOk}
use Rattle.std.specs.Borrow.{Bor}
use Rattle.std.proofs.lemmas.List.{length-append, length-map}
use Rattle.std.proofs.lemmas.List.Sums.{length-filter}
use Rattle.acl_entry.specs.Mentions.{AgreeOnMentions}
use Rattle.acl_entry.specs.Person.{Person}
use Rattle.acl_entry.specs.declared.label.Label.{Label}
use Rattle.acl_edit.specs.declared.node.Node.{Node}
use Rattle.acl_names.specs.Paths.{PathOf}
use Rattle.acl_tree.specs.Files.{Files, Recorded}
use Rattle.acl_tree.specs.Changed.{is_changed}
use Rattle.acl_people.specs.KnownPeople.{persons}
use Rattle.acl_tree.specs.Reports.{StagedState, UsersMoved}
use Rattle.acl_tree.specs.declared.user_change.UserChange.{UserChange}
use Rattle.acl_tree.specs.declared.user_change.UserChange.TheVariants.{Unchanged, Memberships, Added, Removed}
use Rattle.path_map.specs.Entries.{IsInOrder, seen}
use Rattle.path_map.specs.Merged.{merged}
use Rattle.path_map.specs.Below.{lies_in}
use Rattle.path_classes.specs.declared.label_row.LabelRow.{LabelRow}
use Rattle.path_classes.specs.KindRows.{RowedPaths, rows_at}
use Rattle.acl_rights.specs.KindRows.{AreRowsOf, AsManyAreSame, with_label, rowed, rowed_labels, each_row, with_last, without_at, with_again, mentions_any}
use Rattle.acl_rights.proofs.RowsOfKinds.{rowed_rows}
use Rattle.path_classes.proofs.Maps.{map_filter, map_twice}
use Rattle.acl_rights.proofs.Orders.{same_order}
use Rattle.acl_rights.specs.Rows.{Verdict}
use Rattle.acl_rights.specs.Groups.{mentions_one}
use Rattle.acl_rights.specs.Stages.{most_looked, most_asked}
use Rattle.acl_rights.proofs.Mentions.{looked_le}
use Rattle.acl_rights.specs.Reach.{moves_refreshed, verdicts_refreshed}
use Rattle.acl_rights.specs.Lines.{labels_of, AreBefore}
use Rattle.acl_rights.proofs.Costs.{all_users, within, nothing_changed, moved_cost}
use Rattle.acl_rights.proofs.RowCounts.{person_same}
use Rattle.acl_rights.proofs.Goes.{moves, joins, leaves}
use Rattle.path_classes.specs.ClassesWithin.{is_inside, inside}
use Rattle.acl_rights.proofs.Inside.{inside_changed}
use Rattle.acl_rights.proofs.SameFiles.{same_paths}
use Rattle.acl_rights.proofs.Refreshing.{count_paths, count_lying, users_refreshed}
use Rattle.acl_rights.proofs.Rowed.{rowed_paths, rowed_long, rows_changed, rows_moved, rows_joined, rows_left, rows_mentioning, paths_mentioning}

abbrev paths : {A : Type 0} → List (PathOf × A) → List PathOf
paths es = map (λ e. e.0) es

label_paths : (fs : Files) (ls : List (PathOf × Label)) → ls ≡ labels_of fs → paths ls ≡ paths fs
label_paths fs ls are = ap (map (λ (l : PathOf × Label). l.0)) are ∙ map_twice (λ (f : PathOf × Node). (f.0, f.1.label)) (λ (l : PathOf × Label). l.0) fs

last_here : {A : Type 0} (xs : List A) (y : A) (n : ℕ) → n ≡ length xs → slice_get (xs ++ y ∷ []) n ≡ Some y
last_here xs y n is = ap (slice_get (xs ++ y ∷ [])) is ∙ here xs
  where
    here : {A : Type 0} {y : A} (xs : List A) → slice_get (xs ++ y ∷ []) (length xs) ≡ Some y
    here [] = refl
    here (x ∷ xs) = here xs

-- borrowed labels have the paths of their files
pub seen_paths : (fs : Files) (ls : List (Bor PathOf × Bor Label)) → map with_label ls ≡ labels_of fs → paths (map seen ls) ≡ paths fs
seen_paths fs ls are =
    map_twice (seen {V = Bor Label}) (λ (e : PathOf × Bor Label). e.0) ls
    ∙ sym (map_twice with_label (λ (l : PathOf × Label). l.0) ls)
    ∙ label_paths fs (map with_label ls) are

-- how many verdicts the labels of changed files take
pub files_cost : (t : StagedState) (labels : List (Bor PathOf × Bor Label)) (users : List Person) → map with_label labels ≡ labels_of t.changed
    → users ≡ persons t.state.people → length labels * length users ≤ most_asked t
files_cost t labels users are same =
    let files : length labels ≡ length t.changed = sym (length-map labels with_label) ∙ ap length are ∙ length-map t.changed (λ (f : PathOf × Node). (f.0, f.1.label)) in
    let people : length users ≡ length t.state.people.users = ap length same ∙ all_users t.state.people in
    subst (λ n. n ≤ most_asked t) (λ i. sym files i * sym people i) (within t)

-- as many as a count are no more than it
pub all_most : {A E : Type 0} (result : Result (A × ℕ) E) (files count : ℕ) → IfOk result (λ new. new.1 ≤ files) → files ≡ count → IfOk result (λ new. new.1 ≤ count)
all_most (Ok new) files count is same = omega (arith, is, same)
all_most (Err fault) files count is same = tt

module _ (V : Verdict) (es : RowedPaths) (t : StagedState) (b : AreBefore V es t) (ordered : IsInOrder es) (n : IsInOrder t.state.tree.files) where
  abbrev us : List Person
  us = persons t.state.people

  abbrev before : List Person
  before = persons b.goes.state.people

  abbrev fs : Files
  fs = b.goes.state.tree.files

  abbrev gs : Files
  gs = t.state.tree.files

  old_order : IsInOrder fs
  old_order = same_order fs es (sym (rowed_paths V before es fs b.are)) ordered

  same_files : t.state.tree ≡ b.goes.state.tree → es ≡ rowed V before gs
  same_files same = b.are ∙ ap (λ (r : Recorded). rowed V before r.files) (sym same)

  -- ---- files change

  -- where none is gone, and they are as many as before, they are the same files
  pub as_many_same : t.gone ≡ [] → AsManyAreSame es gs
  as_many_same none long =
      rowed_paths V before es fs b.are ∙ same_paths fs gs old_order n (sym b.goes.reports.gone ∙ none) (sym (rowed_long V before es fs b.are) ∙ long)

  module _ (is : t.user_change ≡ Unchanged) where
    same_users : us ≡ before
    same_users = subst (λ m. UsersMoved b.goes.state t.state m) is b.goes.reports.users

    -- each row before is that of its label
    pub rows_known : (users : List Person) → users ≡ us → AreRowsOf V users es
    rows_known users same = subst (λ (l : List Person). AreRowsOf V l es) (sym (same ∙ same_users)) (subst (λ (rows : RowedPaths). AreRowsOf V before rows) (sym b.are) (rowed_rows V before fs))

    pub order_changed : IsInOrder t.changed
    order_changed = subst IsInOrder (sym b.goes.reports.changed) (map_filter (is_changed fs) gs n)

    pub changed_order : (labels : List (PathOf × Label)) → labels ≡ labels_of t.changed → IsInOrder labels
    changed_order labels are = same_order labels t.changed (label_paths t.changed labels are) order_changed

    pub gone_order : {W : Type 0} (gone : List (PathOf × W)) → paths gone ≡ paths t.gone → IsInOrder gone
    gone_order gone are = same_order gone t.gone are (subst IsInOrder (sym b.goes.reports.gone) (map_filter _ fs old_order))

    pub rows_after : {W : Type 0} (labels : List (PathOf × Label)) (gone : List (PathOf × W)) (users : List Person) (new : RowedPaths)
        → labels ≡ labels_of t.changed → paths gone ≡ paths t.gone → users ≡ us
        → new ≡ merged (rowed_labels V users labels) gone es → new ≡ rowed V us gs
    rows_after labels gone users new are are_gone same made =
        made
        ∙ (λ i. merged (rowed_labels V ((same ∙ same_users) i) labels) gone (b.are i))
        ∙ rows_changed V before fs gs labels gone (are ∙ ap labels_of b.goes.reports.changed) (are_gone ∙ ap (λ (es : Files). paths es) b.goes.reports.gone) old_order n
        ∙ ap (λ (l : List Person). rowed V l gs) (sym same_users)

    -- what is counted inside the changed and gone files is inside the changed ones
    pub changed_most : {W : Type 0} (labels : List (PathOf × Label)) (gone : List (PathOf × W)) (new : RowedPaths) (count : ℕ)
        → labels ≡ labels_of t.changed → paths gone ≡ paths t.gone → new ≡ rowed V us gs
        → count ≤ length (inside (paths labels ++ paths gone) new) → count ≤ count_by (λ (e : PathOf × Node). lies_in t.changed e.0) gs
    changed_most labels gone new count are are_gone made le =
        let tops : paths labels ++ paths gone ≡ paths t.changed ++ paths t.gone = λ i. label_paths t.changed labels are i ++ are_gone i in
        let all = inside_changed fs gs t.changed t.gone b.goes.reports.gone n b.goes.reports.apart in
        let same = count_paths (is_inside (paths labels ++ paths gone)) new gs (rowed_paths V us new gs made) in
        let long = length-filter (λ (e : PathOf × LabelRow). is_inside (paths labels ++ paths gone) e.0) new in
        let turned = ap (λ (ps : List PathOf). count_by (λ (e : PathOf × Node). is_inside ps e.0) gs) tops in
        omega (arith, le, long, same, turned, all)

  -- ---- a user joins or leaves groups

  module _ (at : ℕ) (groups : List ℕ) (is : t.user_change ≡ Memberships at groups) where
    es_here : es ≡ rowed V before gs
    es_here = same_files (moves V (rows_at es) t b.goes at groups is).0

    looked_are : count_by (λ (e : PathOf × LabelRow). mentions_any groups e.1) es ≡ count_by (mentions_one groups) gs
    looked_are = rows_mentioning V before groups es gs es_here

    pub looked_cost : count_by (λ (e : PathOf × LabelRow). mentions_any groups e.1) es ≤ most_asked t
    looked_cost = let same = looked_are in let cost = moved_cost t at groups is in omega (arith, same, cost)

    pub looked_moved : (count : ℕ) → count ≤ count_by (λ (e : PathOf × LabelRow). mentions_any groups e.1) es → count ≤ most_looked t.user_change gs
    looked_moved count le = subst (λ (c : UserChange). count ≤ most_looked c gs) (sym is) (let same = looked_are in let few = looked_le groups gs in omega (arith, le, same, few))

    pub refreshed_moved : (count : ℕ) → count ≤ count_by (λ (e : PathOf × LabelRow). lies_in (filter (λ (d : PathOf × LabelRow). mentions_any groups d.1) es) e.0) es → count ≤ verdicts_refreshed t
    refreshed_moved count le =
        let m = moves V (rows_at es) t b.goes at groups is in
        let tops = filter (λ (e : PathOf × LabelRow). mentions_any groups e.1) es in
        let all = count_by (λ (e : PathOf × LabelRow). lies_in tops e.0) es in
        let most = users_refreshed t all (nothing_changed V (rows_at es) t b.goes n m.0)
        (count_lying tops es (filter (mentions_one groups) gs) gs (paths_mentioning V before groups es gs es_here) (rowed_paths V before es gs es_here)
        ∙ ap (λ (c : UserChange). moves_refreshed c gs) (sym is)) in
        omega (arith, le, most)

    module _ (local : (u w : Person) (f : Label) → AgreeOnMentions u w f → V u f ≡ V w f) (u : Person) (next : slice_get us at ≡ Some u) where
      pub rows_after_move : each_row (with_again V at u groups) es ≡ rowed V us gs
      rows_after_move = rows_moved V before us at groups (moves V (rows_at es) t b.goes at groups is).1 local u next es gs es_here

  -- ---- a user is added

  module _ (is : t.user_change ≡ Added) where
    joined_long : length es ≡ length gs
    joined_long = rowed_long V before es gs (same_files (joins V (rows_at es) t b.goes is).0)

    -- the user who was added is the last of those who are there
    last_of_all : (next : Person) × ((us ≡ before ++ next ∷ []) × (slice_get us (length us - 1) ≡ Some next))
    last_of_all =
        let j = (joins V (rows_at es) t b.goes is).1 in
        let long = length-append before (j.next ∷ []) in
        let wide = ap length j.becomes in
        let at : length us - 1 ≡ length before = omega (arith, long, wide) in
        (j.next, (j.becomes, ap (λ (l : List Person). slice_get l (length us - 1)) j.becomes ∙ last_here before j.next (length us - 1) at))

    pub rows_after_join : (u : Person) → slice_get us (length us - 1) ≡ Some u → each_row (with_last V u) es ≡ rowed V us gs
    rows_after_join u got =
        let l = last_of_all in
        let last : us ≡ before ++ u ∷ [] = l.1.0 ∙ ap (λ (u : Person). before ++ u ∷ []) (person_same l.0 u (sym l.1.1 ∙ got)) in
        rows_joined V before u es gs (same_files (joins V (rows_at es) t b.goes is).0) ∙ ap (λ (l : List Person). rowed V l gs) (sym last)

    pub refreshed_joined : (count : ℕ) → count ≡ length es → count ≡ verdicts_refreshed t
    refreshed_joined count long =
        users_refreshed t count (nothing_changed V (rows_at es) t b.goes n (joins V (rows_at es) t b.goes is).0) (long ∙ joined_long ∙ ap (λ (c : UserChange). moves_refreshed c gs) (sym is))

  -- ---- a user is removed

  module _ (at : ℕ) (is : t.user_change ≡ Removed at) where
    pub rows_after_leave : each_row (without_at at) es ≡ rowed V us gs
    rows_after_leave =
        let l = leaves V (rows_at es) t b.goes at is in
        rows_left V before at l.1.was es gs (same_files l.0) ∙ ap (λ (l : List Person). rowed V l gs) (sym l.1.becomes)

    pub refreshed_left : 0 ≡ verdicts_refreshed t
    refreshed_left = users_refreshed t 0 (nothing_changed V (rows_at es) t b.goes n (leaves V (rows_at es) t b.goes at is).0) (ap (λ (c : UserChange). moves_refreshed c gs) (sym is))
