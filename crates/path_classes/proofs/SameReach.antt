-- Files of two classes that have the same answers, and how many files have others.
use Rattle.std.proofs.Common.{◌≡◌, ℕ, zero, suc, ◌+◌, ◌<◌, ◌≤◌, Bool, true, false, cond, List, [], ◌∷◌, ◌++◌, map, take, length, get_or, Option, Some, refl, sym, ap, subst, ◌∙◌, arith}
use Rattle.std.specs.Prelude.{count_by, option_map, slice_get, if◌then◌else◌}
use Rattle.std.specs.Borrow.{Bor}
use Rattle.std.specs.FinMap.{find}
use Rattle.std.proofs.lemmas.List.Sums.{sum_by-cons, sum_by-append}
use Rattle.acl_names.specs.Paths.{path_cmp, PathOf}
use Rattle.path_map.specs.Entries.{IsInOrder, seen, found}
use Rattle.kinds.specs.Kinds.{KindsOf}
use Rattle.kinds.specs.Numbered.{Kept, Numbers, AreUsed, entries_in}
use Rattle.kinds.specs.Inner.{AreAmong}
use Rattle.kinds.proofs.EntriesBy.{items_more}
use Rattle.path_classes.specs.declared.label_row.LabelRow.{LabelRow}
use Rattle.path_classes.specs.declared.path_class.PathClass.{PathClass}
use Rattle.path_classes.specs.Searching.{gets_through}
use Rattle.path_classes.specs.PathClasses.{ClassKinds, AreClasses}
use Rattle.path_classes.specs.ChangedAnswers.{SameReach, HadSameReach}
use Rattle.path_classes.specs.ClassedRows.{SameAnswers, AreCountedOf}
use Rattle.path_classes.proofs.Reaching.{answer_is}

among_at : (es : List (Bor PathOf × ℕ)) (at : ℕ) (e : Bor PathOf × ℕ) (ns : Numbers) → AreAmong ns (map seen es) → at < length es → e ≡ get_or es at e → find path_cmp e.0.now ns ≡ Some e.1
among_at [] at e ns h lt is = absurd (omega (arith, lt))
among_at (d ∷ es) zero e ns h lt is = subst (λ (d : Bor PathOf × ℕ). find path_cmp d.0.now ns ≡ Some d.1) (sym is) h.0
among_at (d ∷ es) (suc at) e ns h lt is = among_at es at e ns h.1 (omega (arith, lt)) is

-- what is found for an item of a list
pub found_at : (es : List (Bor PathOf × ℕ)) (ns : Numbers) (at : ℕ) (e : Bor PathOf × ℕ) (o : Option ℕ) → at < length es → e ≡ get_or es at e → o ≡ get_or (found (map seen es) ns) at o
    → o ≡ find path_cmp e.0.now ns
found_at [] ns at e o lt is is_found = absurd (omega (arith, lt))
found_at (d ∷ es) ns zero e o lt is is_found = is_found ∙ ap (λ (d : Bor PathOf × ℕ). find path_cmp d.0.now ns) (sym is)
found_at (d ∷ es) ns (suc at) e o lt is is_found = found_at es ns at e o (omega (arith, lt)) is is_found

module _ (old new : Kept LabelRow) (before after : Kept PathClass) (used_old : AreUsed old.0 old.1) (used_new : AreUsed new.0 new.1)
    (order_old : IsInOrder (entries_in old)) (order_new : IsInOrder (entries_in new)) (were : AreClasses old before) (are : AreClasses new after) where
  -- a path whose two classes have the same answers has the same ones
  pub same_answers : (p : PathOf) (m n : ℕ) → find path_cmp p before.1 ≡ Some m → find path_cmp p after.1 ≡ Some n → SameReach old.0 before.0 new.0 after.0 m n → SameAnswers old new p
  same_answers p m n had has s user =
      answer_is old before used_old were p m had s.was s.had order_old s.rows.was s.rows.had user
      ∙ (λ i. option_map (λ c. cond (gets_through (s.search i) user) c 0) (slice_get (s.rows.row i) user))
      ∙ sym (answer_is new after used_new are p n has s.is s.has order_new s.rows.is s.rows.has user)

  count_end : (f : PathOf → Bool) (es : Numbers) (e : PathOf × ℕ) → count_by (λ e. f e.0) (es ++ e ∷ []) ≡ count_by (λ e. f e.0) es + cond (f e.0) 1 0
  count_end f es e =
      let a = sum_by-append (λ (e : PathOf × ℕ). cond (f e.0) 1 0) es (e ∷ []) in
      let b = sum_by-cons (λ (e : PathOf × ℕ). cond (f e.0) 1 0) e [] in
      omega (arith, a, b)

  module _ (files : List (Bor PathOf × ℕ)) (among : AreAmong after.1 (map seen files)) (at : ℕ) (e : Bor PathOf × ℕ) (lt : at < length files) (is : e ≡ get_or files at e) where
    -- a file more is counted, unless its answers are the same
    pub counted_more : (was : Option ℕ) → was ≡ find path_cmp e.0.now before.1 → (same : Bool) → (same ≡ true → HadSameReach old.0 before.0 new.0 after.0 was e.1) → (count : ℕ)
        → AreCountedOf old new (map seen (take at files)) count → AreCountedOf old new (map seen (take (at + 1) files)) (if same then count else suc count)
    counted_more was was_is same h count so_far differs stays =
        let few = so_far differs stays in
        let last = ap (count_by (λ (e : PathOf × ℕ). differs e.0)) (items_more seen files at e lt is) ∙ count_end differs (map seen (take at files)) (seen e) in
        by same h few last (stays e.0.now)
      where
        by : (same : Bool) → (same ≡ true → HadSameReach old.0 before.0 new.0 after.0 was e.1) → count_by (λ (e : PathOf × ℕ). differs e.0) (map seen (take at files)) ≤ count
            → count_by (λ (e : PathOf × ℕ). differs e.0) (map seen (take (at + 1) files)) ≡ count_by (λ (e : PathOf × ℕ). differs e.0) (map seen (take at files)) + cond (differs e.0.now) 1 0
            → (SameAnswers old new e.0.now → differs e.0.now ≡ false)
            → count_by (λ (e : PathOf × ℕ). differs e.0) (map seen (take (at + 1) files)) ≤ (if same then count else suc count)
        by true h few last stays =
            let s = h refl in
            let no : differs e.0.now ≡ false = stays (same_answers e.0.now s.0 e.1 (sym was_is ∙ s.1.0) here s.1.1) in
            let none : ◌≡◌ {A = ℕ} (cond (differs e.0.now) 1 0) 0 = ap (λ b. cond b 1 0) no in
            omega (arith, few, last, none)
          where
            here : find path_cmp e.0.now after.1 ≡ Some e.1
            here = among_at files at e after.1 among lt is
        by false h few last stays = let one = at_most (differs e.0.now) in omega (arith, few, last, one)
          where
            at_most : (b : Bool) → cond b 1 0 ≤ 1
            at_most true = omega arith
            at_most false = omega arith

-- ---- what was compared

-- ---- what was compared by other names

pub same_at : (old old' : KindsOf LabelRow) → old ≡ old' → (before before' : ClassKinds) → before ≡ before' → (new new' : KindsOf LabelRow) → new ≡ new' → (after after' : ClassKinds) → after ≡ after'
    → (was : Option ℕ) (n : ℕ) → HadSameReach old before new after was n → HadSameReach old' before' new' after' was n
same_at old old' o before before' b new new' w after after' a was n h =
    subst (λ k. HadSameReach old' before' new' k was n) a
    (subst (λ k. HadSameReach old' before' k after was n) w (subst (λ k. HadSameReach old' k new after was n) b (subst (λ k. HadSameReach k before new after was n) o h)))

pub few_unless : (same : Bool) (n m k : ℕ) → k ≡ (if same then n else suc n) → n ≤ m → k ≤ m + 1
few_unless true n m k is le = omega (arith, is, le)
few_unless false n m k is le = omega (arith, is, le)
