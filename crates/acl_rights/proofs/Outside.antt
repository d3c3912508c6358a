-- A part of the tree that holds what changed: outside it all rows are the same.
use Rattle.std.proofs.Common.{◌≡◌, ℕ, suc, ◌<◌, ◌==◌, Bool, true, false, cond, not, ◌||◌, ◌&&◌, List, [], ◌∷◌, length, map, filter, is_some, Option, Some, None}
use Rattle.std.proofs.Common.{Ordering, Less, Equal, Greater, refl, sym, ap, subst, ◌∙◌, arith}
use Rattle.std.specs.Prelude.{option_map, option_and_then, unwrap_or, if◌then◌else◌, Result, Ok, Err, IfOk, Vec}
use Rattle.std.specs.Borrow.{Bor}
use Rattle.std.specs.Option.{option_map_or}
use Rattle.std.specs.Ordering.{is_eq, is_gt, is_lt}
use Rattle.std.specs.FinMap.{find, is_sorted}
use Rattle.std.specs.FinMap.Entries.{below_all}
use Rattle.std.specs.List.{AllByRecursion}
use Rattle.std.specs.Prelude.{⊤}
use Rattle.std.proofs.lemmas.Bool.{and_from, eqb-true}
use Rattle.acl_entry.specs.Person.{Person}
use Rattle.acl_entry.specs.declared.label.Label.{Label}
use Rattle.acl_names.specs.Paths.{path_cmp, PathOf}
use Rattle.acl_names.specs.Below.{encloses, is_above, parent}
use Rattle.acl_names.proofs.Below.{within_itself, within_trans, below_within}
use Rattle.acl_names.proofs.Parents.{parent_one, parent_more, below_parent}
use Rattle.acl_names.proofs.PathOrder.{exact_paths}
use Rattle.acl_names.proofs.Basics.{not_both, false_from, or_false}
use Rattle.acl_edit.specs.declared.node.Node.{Node}
use Rattle.acl_people.specs.KnownPeople.{persons}
use Rattle.acl_tree.specs.declared.user_change.UserChange.TheVariants.{Unchanged}
use Rattle.acl_tree.specs.Changed.{same_label, is_changed, changed_between, gone_between}
use Rattle.acl_tree.specs.Files.{Files}
use Rattle.acl_tree.specs.State.{State}
use Rattle.acl_tree.specs.Reports.{StagedState, Reports, UsersMoved}
use Rattle.acl_tree.proofs.Changes.{label_is_same}
use Rattle.path_map.specs.Entries.{IsInOrder}
use Rattle.path_classes.specs.Rows.{Rows}
use Rattle.acl_rights.specs.Rows.{Verdict, cells_of, rows_of}
use Rattle.path_classes.specs.ReachedRows.{can_search, passes_in, reached_from}
use Rattle.acl_rights.specs.States.{StatePair, loaded_state}
use Rattle.path_map.specs.Below.{is_passed}
use Rattle.path_classes.specs.ClassesWithin.{AreTops, is_inside, paths_seen}
use Rattle.path_classes.specs.ClassedRows.{paths_of}
use Rattle.path_classes.specs.Tops.{is_in_two}
use Rattle.path_classes.proofs.Tops.{inside_below, passed_parts}
use Rattle.acl_rights.specs.Outside.{is_outside, outside, SameOutside, SameRows, Holds, HoldsChanges}
use Rattle.path_classes.proofs.Maps.{find-values, find-filter, map_filter, same_found}
use Rattle.acl_rights.proofs.Orders.{in_order-values}

-- what is reached at paths, by the rows of all
abbrev reached_of : Rows → Rows → Rows
reached_of all rows = map (λ r. (r.0, reached_from all r.0 0 r.1)) rows

out : (b : Bool) → not b ≡ true → b ≡ false
out true h = cc
out false h = refl

yes : (b : Bool) → not b ≡ false → b ≡ true
yes true h = refl
yes false h = cc

-- ---- a path that is raised

not_root : (top : PathOf) → (length top == 0) ≡ false → top ≡ [] → ⊥
not_root top some root = not_both (length top == 0) (ap (λ (t : PathOf). length t == 0) root) some

pub parent_holds : (top q : PathOf) → (length top == 0) ≡ false → encloses top q ≡ true → encloses (parent top) q ≡ true
parent_holds top q some holds =
    within_trans (parent top) top q (below_within (parent top) top (below_parent (parent top) top (not_root top some) ∙ within_itself (parent top))) holds

parent_shorter : (p : PathOf) → (p ≡ [] → ⊥) → length (parent p) < length p
parent_shorter [] some = absurd (some refl)
parent_shorter (x ∷ []) some = subst (λ (q : PathOf). length q < length (x ∷ [])) (sym (parent_one x)) (omega arith)
parent_shorter (x ∷ y ∷ p) some =
    let lt = parent_shorter (y ∷ p) (λ h. cc) in
    subst (λ (q : PathOf). length q < length (x ∷ y ∷ p)) (sym (parent_more x y p)) (omega (arith, lt))

pub raised_shorter : (top : PathOf) → (length top == 0) ≡ false → length (parent top) < length top
raised_shorter top some = parent_shorter top (not_root top some)

-- ---- a part that holds more

-- the tops of a part that holds another one and what is at or below a path, which holds a path
pub record IsRaised (tops : List PathOf) (path top : PathOf) (new : List PathOf) : Type 0 where
  pub are_tops : AreTops new
  pub covers : (q : PathOf) → is_inside new q ≡ (is_inside tops q || encloses top q)
  pub holds : encloses top path ≡ true

or_false_parts : (a b : Bool) → not (a || b) ≡ true → (not a ≡ true) × (b ≡ false)
or_false_parts true b h = cc
or_false_parts false true h = cc
or_false_parts false false h = (refl, refl)

or_true : (a b : Bool) → b ≡ true → (a || b) ≡ true
or_true true b h = refl
or_true false b h = h

pub raised_wider : (tops new : List PathOf) (path top : PathOf) → IsRaised tops path top new → Holds new tops []
raised_wider tops new path top is p apart = ((or_false_parts (is_inside tops p) (encloses top p) (ap not (sym (is.covers p)) ∙ apart)).0, refl)

pub raised_holds : (tops new : List PathOf) (path top : PathOf) → IsRaised tops path top new → is_inside new path ≡ true
raised_holds tops new path top is = is.covers path ∙ or_true (is_inside tops path) (encloses top path) is.holds

pub holds_itself : (tops new : List PathOf) → new ≡ tops → Holds new tops []
holds_itself tops new is p apart = (ap (λ ts. not (is_inside ts p)) (sym is) ∙ apart, refl)

-- nothing is outside the whole tree
pub none_outside : (tops : List PathOf) (p : PathOf) → tops ≡ [] ∷ [] → is_outside tops p ≡ true → ⊥
none_outside tops p root apart = not_both (is_outside tops p) apart (ap (λ ts. is_outside ts p) root)

pub are_tops_root : (tops : List PathOf) → tops ≡ [] ∷ [] → AreTops tops
are_tops_root tops root = subst AreTops (sym root) (tt, tt)

pub holds_all : (tops old : List PathOf) (files : Files) → tops ≡ [] ∷ [] → Holds tops old files
holds_all tops old files root p apart = absurd (none_outside tops p root apart)

first_whole : (tops : List PathOf) (top p : PathOf) (more : List PathOf) → tops ≡ top ∷ more → (length top == 0) ≡ true → is_outside tops p ≡ false
first_whole tops [] p more first root = ap (λ ts. is_outside ts p) first
first_whole tops (x ∷ top) p more first root = absurd (omega (arith, eqb-true (length (x ∷ top)) 0 root))

-- ---- tops in order

abbrev pub alone : PathOf → PathOf × ⊤
alone p = (p, tt)

is_before : (t s : PathOf) → is_gt (path_cmp t s) ≡ false → encloses t s ≡ false → is_lt (path_cmp t s) ≡ true
is_before t s le apart = by (path_cmp t s) refl le
  where
    by : (o : Ordering) → path_cmp t s ≡ o → is_gt o ≡ false → is_lt o ≡ true
    by Less is le = refl
    by Greater is le = absurd (cc le)
    by Equal is le = absurd (not_both (encloses t s) (ap (encloses t) (sym (exact_paths t s is)) ∙ within_itself t) apart)

pub tops_order : (tops : List PathOf) → AreTops tops → IsInOrder (map alone tops)
tops_order [] h = refl
tops_order (t ∷ tops) h = and_from (below_all path_cmp t (map alone tops)) (is_sorted path_cmp (map alone tops)) (all_after tops h.0) (tops_order tops h.1)
  where
    all_after : (ss : List PathOf) → AllByRecursion (λ s. is_passed t s ≡ false) ss → below_all path_cmp t (map alone ss) ≡ true
    all_after [] h = refl
    all_after (s ∷ ss) h =
        let apart = passed_parts t s h.0 in and_from (is_lt (path_cmp t s)) (below_all path_cmp t (map alone ss)) (is_before t s apart.0 apart.1) (all_after ss h.1)

-- one path is added to tops
pub one_covered : (tops : List PathOf) (top q : PathOf) → is_in_two {V = ⊤} {W = ⊤} (map alone tops) (alone top ∷ []) q ≡ (is_inside tops q || encloses top q)
one_covered tops top q = λ i. is_inside (same tops i) q || or_false (encloses top q) i
  where
    same : (tops : List PathOf) → paths_of (map alone tops) ≡ tops
    same [] = refl
    same (t ∷ tops) = ap (λ l. t ∷ l) (same tops)

pub copied_tops : {E Z : Type 0} (r : Result (Vec PathOf Z) E) (paths : List (Bor PathOf)) → AreTops (paths_seen paths) → IfOk r (λ copies. copies.items ≡ paths_seen paths)
    → IfOk r (λ copies. AreTops copies.items)
copied_tops (Ok copies) paths h are = subst AreTops (sym are) h
copied_tops (Err e) paths h are = are

pub copied_covers : {E Z : Type 0} (r : Result (Vec PathOf Z) E) (paths : List (Bor PathOf)) (tops : List PathOf) (top : PathOf)
    → ((q : PathOf) → is_inside (paths_seen paths) q ≡ (is_inside tops q || encloses top q)) → IfOk r (λ copies. copies.items ≡ paths_seen paths)
    → IfOk r (λ copies. (q : PathOf) → is_inside copies.items q ≡ (is_inside tops q || encloses top q))
copied_covers (Ok copies) paths tops top h are = λ q. ap (λ ps. is_inside ps q) are ∙ h q
copied_covers (Err e) paths tops top h are = are

-- a part holds another one and the files before some that are left
abbrev pub HoldsRead : (new old : List PathOf) → (files left : Files) → Type 0
HoldsRead new old files left = (p : PathOf) → is_outside new p ≡ true → (is_outside old p ≡ true) × (find path_cmp p files ≡ find path_cmp p left)

find_outside : {A : Type 0} (top p : PathOf) (es : List (PathOf × A)) → encloses top p ≡ false → find path_cmp p (filter (λ e. not (encloses top e.0)) es) ≡ find path_cmp p es
find_outside top p [] apart = refl
find_outside {A = A} top p (e ∷ es) apart = by (encloses top e.0) refl (path_cmp p e.0) refl (find_outside top p es apart)
  where
    left : List (PathOf × A)
    left = filter (λ e. not (encloses top e.0)) es

    by : (b : Bool) → encloses top e.0 ≡ b → (o : Ordering) → path_cmp p e.0 ≡ o → find path_cmp p left ≡ find path_cmp p es
        → find path_cmp p (cond (not b) (e ∷ left) left) ≡ cond (is_eq o) (Some e.1) (find path_cmp p es)
    by false is o cmp more = ap (λ o. cond (is_eq o) (Some e.1) (find path_cmp p left)) cmp ∙ ap (λ r. cond (is_eq o) (Some e.1) r) more
    by true is Less cmp more = more
    by true is Greater cmp more = more
    by true is Equal cmp more = absurd (not_both (encloses top e.0) is (ap (encloses top) (sym (exact_paths p e.0 cmp)) ∙ apart))

not_here : {A : Type 0} (p : PathOf) (e : PathOf × A) (more : List (PathOf × A)) → encloses e.0 p ≡ false → find path_cmp p (e ∷ more) ≡ find path_cmp p more
not_here p e more apart = by (path_cmp p e.0) refl
  where
    by : (o : Ordering) → path_cmp p e.0 ≡ o → cond (is_eq o) (Some e.1) (find path_cmp p more) ≡ find path_cmp p more
    by Less is = refl
    by Greater is = refl
    by Equal is = absurd (not_both (encloses e.0 p) (ap (λ (q : PathOf). encloses q p) (sym (exact_paths p e.0 is)) ∙ within_itself p) apart)

-- a file is read, with what is below it
pub read_more : (new before old : List PathOf) (files rest left more : Files) (e : PathOf × Node) → rest ≡ e ∷ more → left ≡ filter (λ d. not (encloses e.0 d.0)) more
    → is_inside new e.0 ≡ true → Holds new before [] → HoldsRead before old files rest → HoldsRead new old files left
read_more new before old files rest left more e first is holds holds_before read p apart =
    let was = read p (holds_before p apart).0 in
    let off : encloses e.0 p ≡ false = false_from (encloses e.0 p) (λ below. not_both (is_inside new p) (inside_below new e.0 p holds below) (out (is_inside new p) apart)) in
    (was.0, was.1 ∙ ap (find path_cmp p) first ∙ not_here p e more off ∙ sym (find_outside e.0 p more off) ∙ ap (find path_cmp p) (sym is))

pub read_all : (new old : List PathOf) (files left : Files) → left ≡ [] → HoldsRead new old files left → Holds new old files
read_all new old files left none read p apart = ((read p apart).0, (read p apart).1 ∙ ap (find path_cmp p) none)

-- ---- the rows after a line

module _ {A : Type 0} (new old : List PathOf) (holds : (p : PathOf) → is_outside new p ≡ true → is_outside old p ≡ true) where
  outside_twice : (es : List (PathOf × A)) → outside new (outside old es) ≡ outside new es
  outside_twice [] = refl
  outside_twice (e ∷ es) = by (is_outside old e.0) refl (is_outside new e.0) refl (outside_twice es)
    where
      by : (b : Bool) → is_outside old e.0 ≡ b → (c : Bool) → is_outside new e.0 ≡ c → outside new (outside old es) ≡ outside new es
          → outside new (cond b (e ∷ outside old es) (outside old es)) ≡ cond c (e ∷ outside new es) (outside new es)
      by true is c at more = ap (λ c. cond c (e ∷ outside new (outside old es)) (outside new (outside old es))) at ∙ ap (λ l. cond c (e ∷ l) l) more
      by false is true at more = absurd (not_both (is_outside old e.0) (holds e.0 at) is)
      by false is false at more = more

-- a line leaves the label of a path that it does not report
module _ (fs gs : Files) (order : IsInOrder fs) (ordered : IsInOrder gs) (p : PathOf) (no_change : find path_cmp p (changed_between fs gs) ≡ None)
    (not_gone : find path_cmp p (gone_between fs gs) ≡ None) where
  unreported : (b : Bool) (n : Node) → (if b then Some n else None) ≡ None → b ≡ false
  unreported true n h = cc
  unreported false n h = refl

  new_file : (n : Node) → find path_cmp p gs ≡ Some n → option_map_or (λ (m : Node). not (same_label m.label n.label)) (find path_cmp p fs) true ≡ false
  new_file n is =
      unreported (is_changed fs (p, n)) n (sym (find-filter (is_changed fs) p gs ordered ∙ ap (λ o. option_and_then (λ (a : Node). if is_changed fs (p, a) then Some a else None) o) is) ∙ no_change)

  old_file : (m : Node) → find path_cmp p fs ≡ Some m → is_some (find path_cmp p gs) ≡ true
  old_file m is =
      yes (is_some (find path_cmp p gs))
      (unreported (not (is_some (find path_cmp p gs))) m
      (sym (find-filter (λ (e : PathOf × Node). not (is_some (find path_cmp e.0 gs))) p fs order
      ∙ ap (λ o. option_and_then (λ (a : Node). if not (is_some (find path_cmp p gs)) then Some a else None) o) is) ∙ not_gone))

  same_labels : option_map (λ (n : Node). n.label) (find path_cmp p fs) ≡ option_map (λ (n : Node). n.label) (find path_cmp p gs)
  same_labels = by (find path_cmp p fs) (find path_cmp p gs) refl refl
    where
      by : (a b : Option Node) → find path_cmp p fs ≡ a → find path_cmp p gs ≡ b → option_map (λ (m : Node). m.label) a ≡ option_map (λ (m : Node). m.label) b
      by None None was is = refl
      by None (Some n) was is = absurd (not_both true refl (ap (λ o. option_map_or (λ (k : Node). not (same_label k.label n.label)) o true) (sym was) ∙ new_file n is))
      by (Some m) None was is = absurd (not_both (is_some (find path_cmp p gs)) (old_file m was) (ap is_some is))
      by (Some m) (Some n) was is =
          ap Some (label_is_same m.label n.label (yes (same_label m.label n.label) (ap (λ o. option_map_or (λ (k : Node). not (same_label k.label n.label)) o true) (sym was) ∙ new_file n is)))

  same_cells : (V : Verdict) (us : List Person) → option_map (cells_of V us) (find path_cmp p fs) ≡ option_map (cells_of V us) (find path_cmp p gs)
  same_cells V us = twice (find path_cmp p fs) ∙ ap (option_map (λ (l : Label). map (λ u. V u l) us)) same_labels ∙ sym (twice (find path_cmp p gs))
    where
      twice : (o : Option Node) → option_map (cells_of V us) o ≡ option_map (λ (l : Label). map (λ u. V u l) us) (option_map (λ (n : Node). n.label) o)
      twice None = refl
      twice (Some n) = refl

module _ (V : Verdict) (before : State) (t : StagedState) (old new : List PathOf) (reports : Reports before t) (holds : HoldsChanges new old t)
    (order : IsInOrder before.tree.files) (ordered : IsInOrder t.state.tree.files) where
  abbrev rows_before : Rows
  rows_before = rows_of V (persons before.people) before.tree.files

  abbrev rows_after : Rows
  rows_after = rows_of V (persons t.state.people) t.state.tree.files

  row_kept : (p : PathOf) → is_outside new p ≡ true → find path_cmp p rows_before ≡ find path_cmp p rows_after
  row_kept p apart =
      let kept = holds p apart in
      let users : persons t.state.people ≡ persons before.people = subst (λ m. UsersMoved before t.state m) kept.users reports.users in
      find-values (cells_of V (persons before.people)) p before.tree.files
      ∙ same_cells before.tree.files t.state.tree.files order ordered p (ap (λ (fs : Files). find path_cmp p fs) (sym reports.changed) ∙ kept.changed)
      (ap (λ (fs : Files). find path_cmp p fs) (sym reports.gone) ∙ kept.gone) V (persons before.people)
      ∙ ap (λ (us : List Person). option_map (cells_of V us) (find path_cmp p t.state.tree.files)) (sym users)
      ∙ sym (find-values (cells_of V (persons t.state.people)) p t.state.tree.files)

  line_kept : outside new rows_before ≡ outside new rows_after
  line_kept = same_found (outside new rows_before) (outside new rows_after) (map_filter test rows_before order_before) (map_filter test rows_after order_after) (λ p. by p (is_outside new p) refl)
    where
      test : PathOf × List ℕ → Bool
      test e = is_outside new e.0

      order_before : IsInOrder rows_before
      order_before = in_order-values (λ (e : PathOf × Node). cells_of V (persons before.people) e.1) before.tree.files order

      order_after : IsInOrder rows_after
      order_after = in_order-values (λ (e : PathOf × Node). cells_of V (persons t.state.people) e.1) t.state.tree.files ordered

      none : (o : Option (List ℕ)) (b : Bool) → b ≡ false → option_and_then (λ (a : List ℕ). if b then Some a else None) o ≡ None
      none None b h = refl
      none (Some a) b h = ap (λ b. if b then Some a else None) h

      by : (p : PathOf) (b : Bool) → is_outside new p ≡ b → find path_cmp p (outside new rows_before) ≡ find path_cmp p (outside new rows_after)
      by p true apart =
          find-filter test p rows_before order_before
          ∙ ap (λ o. option_and_then (λ (a : List ℕ). if is_outside new p then Some a else None) o) (row_kept p apart) ∙ sym (find-filter test p rows_after order_after)
      by p false inside =
          find-filter test p rows_before order_before ∙ none (find path_cmp p rows_before) (is_outside new p) inside ∙ sym (none (find path_cmp p rows_after) (is_outside new p) inside)
          ∙ sym (find-filter test p rows_after order_after)

  -- outside a part that holds what a line changed all rows stay the same
  pub same_after : (loaded : State) → SameRows V old loaded before → SameRows V new loaded t.state
  same_after loaded same =
      sym (outside_twice new old (λ p apart. (holds p apart).outside) (rows_of V (persons loaded.people) loaded.tree.files))
      ∙ ap (outside new) same
      ∙ outside_twice new old (λ p apart. (holds p apart).outside) rows_before
      ∙ line_kept

-- ---- along paths

module _ (top : List PathOf) where
  not_above : (r p : PathOf) → is_outside top r ≡ false → is_outside top p ≡ true → is_above r p ≡ false
  not_above r p inside apart =
      false_from (is_above r p) (λ below. not_both (is_inside top p) (inside_below top r p (yes (is_inside top r) inside) (below_within r p below)) (out (is_inside top p) apart))

  passes_outside : (rows : Rows) (user : ℕ) (p : PathOf) → is_outside top p ≡ true → passes_in rows user p ≡ passes_in (outside top rows) user p
  passes_outside [] user p apart = refl
  passes_outside (r ∷ rows) user p apart = by (is_outside top r.0) refl (passes_outside rows user p apart)
    where
      by : (b : Bool) → is_outside top r.0 ≡ b → passes_in rows user p ≡ passes_in (outside top rows) user p
          → ((not (is_above r.0 p) || can_search user r.1) && passes_in rows user p) ≡ passes_in (cond b (r ∷ outside top rows) (outside top rows)) user p
      by true is more = ap (λ b. (not (is_above r.0 p) || can_search user r.1) && b) more
      by false is more = ap (λ b. (not b || can_search user r.1) && passes_in rows user p) (not_above r.0 p is apart) ∙ more

  reached_outside : (rows : Rows) (p : PathOf) → is_outside top p ≡ true → (n : ℕ) (cells : List ℕ) → reached_from rows p n cells ≡ reached_from (outside top rows) p n cells
  reached_outside rows p apart n [] = refl
  reached_outside rows p apart n (c ∷ cells) = λ i. (if passes_outside rows n p apart i then c else 0) ∷ reached_outside rows p apart (suc n) cells i

  outside_reached : (all rows : Rows) → outside top (reached_of all rows) ≡ reached_of (outside top all) (outside top rows)
  outside_reached all [] = refl
  outside_reached all (r ∷ rows) = by (is_outside top r.0) refl (outside_reached all rows)
    where
      by : (b : Bool) → is_outside top r.0 ≡ b → outside top (reached_of all rows) ≡ reached_of (outside top all) (outside top rows)
          → cond b ((r.0, reached_from all r.0 0 r.1) ∷ outside top (reached_of all rows)) (outside top (reached_of all rows))
          ≡ reached_of (outside top all) (cond b (r ∷ outside top rows) (outside top rows))
      by true is more = λ i. (r.0, reached_outside all r.0 is 0 r.1 i) ∷ more i
      by false is more = more

pub same_outside : (V : Verdict) (top : List PathOf) (loaded now : State) → SameRows V top loaded now → SameOutside V top loaded now
same_outside V top loaded now same true =
    let before = rows_of V (persons loaded.people) loaded.tree.files in
    let after = rows_of V (persons now.people) now.tree.files in
    outside_reached top before before ∙ (λ i. reached_of (same i) (same i)) ∙ sym (outside_reached top after after)
same_outside V top loaded now same false = same

-- ---- out of what is inside

pub same_part : (V : Verdict) (w pair : StatePair) (changed top : List PathOf) → pair ≡ w → changed ≡ top → SameRows V changed (loaded_state pair) pair.state
    → SameOutside V top (loaded_state w) w.state
same_part V w pair changed top view is same =
    subst (λ (x : StatePair). SameOutside V top (loaded_state x) x.state) view
    (same_outside V top (loaded_state pair) pair.state (subst (λ (t : List PathOf). SameRows V t (loaded_state pair) pair.state) is same))

-- ---- what a line changed

pub holds_changes : (both new old top : List PathOf) (staged : StagedState) (changed gone : Files) → old ≡ top → changed ≡ staged.changed → gone ≡ staged.gone → staged.user_change ≡ Unchanged
    → Holds new old changed → Holds both new gone → HoldsChanges both top staged
holds_changes both new old top staged changed gone is are_changed are_gone users first second p apart =
    let more = second p apart in
    let less = first p more.0 in
    record {
      outside = subst (λ (o : List PathOf). is_outside o p ≡ true) is less.0;
      users = users;
      changed = subst (λ (fs : Files). find path_cmp p fs ≡ None) are_changed less.1;
      gone = subst (λ (fs : Files). find path_cmp p fs ≡ None) are_gone more.1;
    }

pub all_changes : (tops old : List PathOf) (staged : StagedState) → tops ≡ [] ∷ [] → HoldsChanges tops old staged
all_changes tops old staged root p apart = absurd (none_outside tops p root apart)

pub same_next : (V : Verdict) (w pair : StatePair) (t : StagedState) (old new : List PathOf) → pair ≡ w → Reports w.state t → IsInOrder w.state.tree.files
    → IsInOrder t.state.tree.files → SameRows V old (loaded_state pair) pair.state
    → HoldsChanges new old t → SameRows V new (loaded_state w) t.state
same_next V w pair t old new view reports order ordered same holds =
    same_after V w.state t old new reports holds order ordered (loaded_state w) (subst (λ (x : StatePair). SameRows V old (loaded_state x) x.state) view same)

loaded_or : (o : Option State) (s : State) → unwrap_or o s ≡ option_map_or (λ (l : State). l) o s
loaded_or None s = refl
loaded_or (Some l) s = refl

-- the state that is kept is the one after the texts were loaded
pub same_put : (V : Verdict) (w pair : StatePair) (changed new : List PathOf) (next now kept before : State) → pair ≡ w → before ≡ pair.state
    → kept ≡ unwrap_or pair.loaded before → new ≡ changed → now ≡ next
    → SameRows V changed (loaded_state w) next → SameRows V new kept now
same_put V w pair changed new next now kept before view is_before is_kept is_new is_now same =
    let is : kept ≡ loaded_state w = is_kept ∙ ap (λ (s : State). unwrap_or pair.loaded s) is_before ∙ loaded_or pair.loaded pair.state ∙ ap loaded_state view in
    subst (λ (t : List PathOf). SameRows V t kept now) (sym is_new)
    (subst (λ (s : State). SameRows V changed s now) (sym is) (subst (λ (s : State). SameRows V changed (loaded_state w) s) (sym is_now) same))
