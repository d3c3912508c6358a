-- Answers at paths outside of some tops stay as they were; so the answers that change are counted inside.
use Rattle.std.proofs.Common.{◌≡◌, ℕ, suc, ◌+◌, Bool, true, false, not, ◌||◌, ◌&&◌, cond, List, [], ◌∷◌, map, length, Option, Some, None, refl, sym, ap, ◌∙◌, arith}
use Rattle.std.specs.Prelude.{count_by, option_map, option_and_then, slice_get}
use Rattle.std.specs.Borrow.{Bor}
use Rattle.std.specs.List.{AllByRecursion}
use Rattle.std.specs.FinMap.{find}
use Rattle.std.proofs.lemmas.List.Sums.{sum_by-cons}
use Rattle.acl_names.specs.Paths.{path_cmp, PathOf}
use Rattle.acl_names.specs.Below.{is_above}
use Rattle.acl_names.proofs.Basics.{not_both, false_from}
use Rattle.acl_names.proofs.Below.{below_within}
use Rattle.path_map.specs.Entries.{IsInOrder, seen}
use Rattle.kinds.specs.Kinds.{KindsOf, node_at}
use Rattle.kinds.specs.Numbered.{Kept, Numbers, with_node, entries_by, entries_in}
use Rattle.path_classes.specs.declared.label_row.LabelRow.{LabelRow}
use Rattle.path_classes.specs.KindRows.{RowedPaths, rows_at}
use Rattle.path_classes.specs.ReachedRows.{can_search, passes_in, reached_at}
use Rattle.path_classes.specs.PathClasses.{ClassKinds}
use Rattle.path_classes.specs.ClassesWithin.{is_inside, inside, outside, ChangesInside}
use Rattle.path_classes.specs.ClassedRows.{SameAnswers, AreCountedOf, AreCounted}
use Rattle.path_classes.proofs.Searched.{cell_nowhere, cell_of_none, cell_here}
use Rattle.path_classes.proofs.Making.{with_kind}
use Rattle.path_classes.proofs.Tops.{inside_below, all_outside}
use Rattle.path_classes.proofs.PutWithin.{find_outside}

module _ (tops : List PathOf) where
  outside_entries : (k : KindsOf LabelRow) (ns : Numbers) → outside tops (entries_by k ns) ≡ entries_by k (outside tops ns)
  outside_entries k [] = refl
  outside_entries k (e ∷ ns) = by (node_at k e.1) refl (is_inside tops e.0) refl (outside_entries k ns)
    where
      by : (o : Option LabelRow) → node_at k e.1 ≡ o → (b : Bool) → is_inside tops e.0 ≡ b → outside tops (entries_by k ns) ≡ entries_by k (outside tops ns)
          → outside tops (with_node e.0 o (entries_by k ns)) ≡ entries_by k (cond (not b) (e ∷ outside tops ns) (outside tops ns))
      by None is true i more = more
      by None is false i more = more ∙ ap (λ o. with_node e.0 o (entries_by k (outside tops ns))) (sym is)
      by (Some x) is true i more = ap (λ b. cond (not b) ((e.0, x) ∷ outside tops (entries_by k ns)) (outside tops (entries_by k ns))) i ∙ more
      by (Some x) is false i more =
          ap (λ b. cond (not b) ((e.0, x) ∷ outside tops (entries_by k ns)) (outside tops (entries_by k ns))) i
          ∙ ap (λ l. (e.0, x) ∷ l) more
          ∙ ap (λ o. with_node e.0 o (entries_by k (outside tops ns))) (sym is)

  module _ (p : PathOf) (out : is_inside tops p ≡ false) (user : ℕ) where
    -- whether a user gets through to a path outside, by the rows outside alone
    passes_outside : (es : RowedPaths) → passes_in (rows_at es) user p ≡ passes_in (rows_at (outside tops es)) user p
    passes_outside [] = refl
    passes_outside (e ∷ es) = by (is_inside tops e.0) refl (passes_outside es)
      where
        by : (b : Bool) → is_inside tops e.0 ≡ b → passes_in (rows_at es) user p ≡ passes_in (rows_at (outside tops es)) user p
            → passes_in (rows_at (e ∷ es)) user p ≡ passes_in (rows_at (cond (not b) (e ∷ outside tops es) (outside tops es))) user p
        by true i more =
            let apart : is_above e.0 p ≡ false = false_from (is_above e.0 p) (λ k. not_both (is_inside tops p) (inside_below tops e.0 p i (below_within e.0 p k)) out) in
            ap (λ b. (not b || can_search user e.1.row) && passes_in (rows_at es) user p) apart ∙ more
        by false i more = ap (λ b. (not (is_above e.0 p) || can_search user e.1.row) && b) more

    abbrev answer_by : RowedPaths → Option ℕ
    answer_by es = option_and_then (λ (n : LabelRow). option_map (λ c. cond (passes_in (rows_at es) user p) c 0) (slice_get n.row user)) (find path_cmp p es)

    cell_outside : (es : RowedPaths) (n : LabelRow) → find path_cmp p es ≡ Some n → (o : Option ℕ) → slice_get n.row user ≡ o
        → reached_at (rows_at es) user p ≡ option_map (λ c. cond (passes_in (rows_at (outside tops es)) user p) c 0) o
    cell_outside es n is None has = cell_of_none es p user n is has
    cell_outside es n is (Some c) has = cell_here es p user n c (passes_in (rows_at (outside tops es)) user p) is has (sym (passes_outside es))

    abbrev answer_of : RowedPaths → Option LabelRow → Option ℕ
    answer_of es o = option_and_then (λ (n : LabelRow). option_map (λ c. cond (passes_in (rows_at es) user p) c 0) (slice_get n.row user)) o

    row_outside : (es : RowedPaths) (o : Option LabelRow) → find path_cmp p es ≡ o → reached_at (rows_at es) user p ≡ answer_of (outside tops es) o
    row_outside es None is = cell_nowhere es p user is
    row_outside es (Some n) is = cell_outside es n is (slice_get n.row user) refl

    -- the answer at a path outside, by the rows outside alone
    answer_outside : (es : RowedPaths) → IsInOrder es → reached_at (rows_at es) user p ≡ answer_by (outside tops es)
    answer_outside es order =
        row_outside es (find path_cmp p es) refl
        ∙ ap (answer_of (outside tops es)) (sym (find_outside tops p es order false out))

-- ---- counts

count_cons : {A : Type 0} (f : A → Bool) (x : A) (xs : List A) → count_by f (x ∷ xs) ≡ cond (f x) 1 0 + count_by f xs
count_cons f x xs = sum_by-cons (λ x. cond (f x) 1 0) x xs

count_parts : (tops : List PathOf) (f : PathOf → Bool) (es : Numbers)
    → count_by (λ e. f e.0) es ≡ count_by (λ e. f e.0) (inside tops es) + count_by (λ e. f e.0) (outside tops es)
count_parts tops f [] = refl
count_parts tops f (e ∷ es) = by (is_inside tops e.0) (count_parts tops f es)
  where
    by : (b : Bool) → count_by (λ e. f e.0) es ≡ count_by (λ e. f e.0) (inside tops es) + count_by (λ e. f e.0) (outside tops es)
        → count_by (λ e. f e.0) (e ∷ es) ≡ count_by (λ e. f e.0) (cond b (e ∷ inside tops es) (inside tops es)) + count_by (λ e. f e.0) (cond (not b) (e ∷ outside tops es) (outside tops es))
    by true more = let a = count_cons (λ e. f e.0) e es in let b = count_cons (λ e. f e.0) e (inside tops es) in omega (arith, a, b, more)
    by false more = let a = count_cons (λ e. f e.0) e es in let b = count_cons (λ e. f e.0) e (outside tops es) in omega (arith, a, b, more)

count_none : (f : PathOf → Bool) (es : Numbers) → AllByRecursion (λ (e : PathOf × ℕ). f e.0 ≡ false) es → count_by (λ e. f e.0) es ≡ 0
count_none f [] h = refl
count_none f (e ∷ es) h = count_cons (λ e. f e.0) e es ∙ (λ i. cond (h.0 i) 1 0 + count_none f es h.1 i)

-- other numbers leave the count of paths
count_kinds : (f : PathOf → Bool) (k : ClassKinds) (es : Numbers) → count_by (λ e. f e.0) (map (with_kind k) es) ≡ count_by (λ e. f e.0) es
count_kinds f k [] = refl
count_kinds f k (e ∷ es) =
    count_cons (λ e. f e.0) (with_kind k e) (map (with_kind k) es) ∙ ap (λ n. cond (f e.0) 1 0 + n) (count_kinds f k es) ∙ sym (count_cons (λ e. f e.0) e es)

pub length_kinds : (k : ClassKinds) (es all : Numbers) → map (with_kind k) es ≡ all → length es ≡ length all
length_kinds k es all is = sym (same es) ∙ ap length is
  where
    same : (es : Numbers) → length (map (with_kind k) es) ≡ length es
    same [] = refl
    same (e ∷ es) = ap suc (same es)

pub length_seen : (fs : List (Bor PathOf × ℕ)) → length (map seen fs) ≡ length fs
length_seen [] = refl
length_seen (f ∷ fs) = ap suc (length_seen fs)

-- ---- rows that change inside

module _ (old new : Kept LabelRow) (tops : List PathOf) (r : ChangesInside old tops new) (order_old : IsInOrder (entries_in old)) (order_new : IsInOrder (entries_in new)) where
  same_nodes : (ns : Numbers) → AllByRecursion (λ e. node_at new.0 e.1 ≡ node_at old.0 e.1) ns → entries_by new.0 ns ≡ entries_by old.0 ns
  same_nodes [] h = refl
  same_nodes (e ∷ ns) h = λ i. with_node e.0 (h.0 i) (same_nodes ns h.1 i)

  same_outside : outside tops (entries_in old) ≡ outside tops (entries_in new)
  same_outside =
      outside_entries tops old.0 old.1
      ∙ sym (same_nodes (outside tops old.1) r.rows)
      ∙ ap (entries_by new.0) (sym r.numbers)
      ∙ sym (outside_entries tops new.0 new.1)

  answers_outside : (p : PathOf) → is_inside tops p ≡ false → SameAnswers old new p
  answers_outside p out user =
      answer_outside tops p out user (entries_in old) order_old
      ∙ ap (answer_by tops p out user) same_outside
      ∙ sym (answer_outside tops p out user (entries_in new) order_new)

  -- the paths inside, by the classes that were found for them
  pub counted_all : (k : ClassKinds) (made : Numbers) (n : ℕ) → map (with_kind k) made ≡ inside tops new.1 → AreCountedOf old new made n → AreCounted old new n
  counted_all k made n is counted differs stays =
      let a = counted differs stays in
      let b = count_parts tops differs new.1 in
      let c = ap (count_by (λ (e : PathOf × ℕ). differs e.0)) (sym is) ∙ count_kinds differs k made in
      let d = count_none differs (outside tops new.1) (none (outside tops new.1) (all_outside tops new.1)) in
      omega (arith, a, b, c, d)
    where
      none : (es : Numbers) → AllByRecursion (λ (e : PathOf × ℕ). is_inside tops e.0 ≡ false) es → AllByRecursion (λ (e : PathOf × ℕ). differs e.0 ≡ false) es
      none [] h = tt
      none (e ∷ es) h = (stays e.0 (answers_outside e.0 h.0), none es h.1)
