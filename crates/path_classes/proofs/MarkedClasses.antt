-- How many files may have other answers, counted by marks of labels and of classes.
use Rattle.std.proofs.Common.{◌≡◌, ℕ, suc, zero, ◌+◌, ◌≤◌, Bool, true, false, ◌++◌, List, [], ◌∷◌, length, get_or, Option, Some, None, refl, sym, ap, subst, ◌∙◌, arith}
use Rattle.std.specs.Prelude.{not, count_by}
use Rattle.std.specs.Option.{option_map_or}
use Rattle.std.specs.FinMap.{find}
use Rattle.std.proofs.lemmas.List.Sums.{count_by-le-length}
use Rattle.acl_names.specs.Paths.{path_cmp, PathOf}
use Rattle.kinds.specs.Numbered.{Kept, Numbers, AreUsed, entries_by, entries_in}
use Rattle.kinds.proofs.EntriesBy.{entry_first}
use Rattle.path_classes.specs.declared.label_row.LabelRow.{LabelRow}
use Rattle.path_classes.specs.declared.path_class.PathClass.{PathClass}
use Rattle.path_classes.specs.ClassedRows.{SameAnswers, AreCounted, verdicts_at}
use Rattle.path_classes.specs.FoundClasses.{is_marked}
use Rattle.path_classes.specs.PathClasses.{search_at, search_above}
use Rattle.path_classes.proofs.Rerowed.{or_false, kind_stays}
use Rattle.path_classes.proofs.Touched.{AreBoth, count_none, had, has, same_answers, all_counted}

pub not_false : (b : Bool) → not b ≡ false → b ≡ true
not_false true h = refl
not_false false h = cc

-- one mark more
pub marks_more : (P : ℕ → Type 0) (marks : List Bool) (b : Bool) → ((n : ℕ) → get_or marks n true ≡ false → P n) → (b ≡ false → P (length marks))
    → (n : ℕ) → get_or (marks ++ b ∷ []) n true ≡ false → P n
marks_more P [] b each last zero h = last h
marks_more P [] b each last (suc n) h = each (suc n) h
marks_more P (m ∷ marks) b each last zero h = each zero h
marks_more P (m ∷ marks) b each last (suc n) h = marks_more (λ k. P (suc k)) marks b (λ k. each (suc k)) last n h

-- ---- rows of the same paths, where all verdicts may be others

module _ (old new : Kept LabelRow) (before classes : Kept PathClass) (b : AreBoth old new before classes) (numbers : new.1 ≡ old.1) (labels searches : List Bool)
    (verdicts : (n : ℕ) → get_or labels n true ≡ false → verdicts_at new.0 n ≡ verdicts_at old.0 n)
    (searched : (n : ℕ) → get_or searches n true ≡ false → search_at classes.0 n ≡ search_at before.0 n) where
  same_above : (above : Option ℕ) → option_map_or (λ a. get_or searches a true) above false ≡ false → search_above classes.0 above ≡ search_above before.0 above
  same_above None h = refl
  same_above (Some a) h = ap Some (searched a h)

  -- a path whose class is not marked has the answers that it had
  unmarked : (p : PathOf) (n : ℕ) (found : find path_cmp p before.1 ≡ Some n) → is_marked labels searches (has old new before classes b p n found).class ≡ false → SameAnswers old new p
  unmarked p n found h =
      let was : PathClass = (had old new before classes b p n found).class in
      let is : PathClass = (has old new before classes b p n found).class in
      let outs = or_false (get_or labels is.kind true) (option_map_or (λ a. get_or searches a true) is.above false) h in
      let kind : is.kind ≡ was.kind = kind_stays old new before classes b numbers p n found in
      same_answers old new before classes b p n found kind (verdicts was.kind (ap (λ k. get_or labels k true) (sym kind) ∙ outs.0)) (same_above is.above outs.1)

  pub marked_counted : (count : ℕ) → count ≡ count_by (λ (e : PathOf × PathClass). is_marked labels searches e.1) (entries_in classes) → AreCounted old new count
  marked_counted count is =
      let sum : count_by (λ (e : PathOf × ℕ). false) before.1 + count_by (λ (e : PathOf × PathClass). is_marked labels searches e.1) (entries_in classes) ≡ count =
      let none = count_none before.1 in omega (arith, none, is) in
      subst (AreCounted old new) sum (all_counted old new before classes b (λ n. false) (is_marked labels searches) unmarked)

pub entries_long : (k : Kept PathClass) (ns : Numbers) → AreUsed k.0 ns → length (entries_by k.0 ns) ≡ length ns
entries_long k [] used = refl
entries_long k (e ∷ ns) used = ap length (entry_first k.0 e ns used.0.0 used.0.1) ∙ ap suc (entries_long k ns used.1)

-- no more than all
pub marked_few : (test : PathClass → Bool) (classes : Kept PathClass) (count : ℕ) → AreUsed classes.0 classes.1
    → count ≡ count_by (λ (e : PathOf × PathClass). test e.1) (entries_in classes) → count ≤ length classes.1
marked_few test classes count used is =
    let few = count_by-le-length (λ (e : PathOf × PathClass). test e.1) (entries_in classes) in
    let long = entries_long classes classes.1 used in
    omega (arith, few, long, is)
