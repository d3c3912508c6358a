-- Another node for a number, and other numbers for the paths of a map.
use Rattle.std.proofs.Common.{◌≡◌, ℕ, ◌<◌, Bool, true, false, cond, List, [], ◌∷◌, length, map, set, get_or, Option, Some, None, refl, sym, ap, ◌∙◌, arith}
use Rattle.std.specs.Prelude.{◌==◌}
use Rattle.std.specs.Option.{unwrap_or}
use Rattle.std.specs.FinMap.{find, is_sorted}
use Rattle.std.proofs.lemmas.List.{map-set, length-map}
use Rattle.acl_names.specs.Paths.{path_cmp, PathOf}
use Rattle.path_map.specs.Entries.{IsInOrder}
use Rattle.path_map.specs.Changed.{with_values}
use Rattle.path_map.proofs.Rows.{sorted_rows}
use Rattle.kinds.specs.Kinds.{KindsOf, kinds_of, count_at, IsNode}
use Rattle.kinds.specs.Numbered.{Numbers, AreUsed, AreSound}
use Rattle.kinds.specs.Inner.{AreAmong}
use Rattle.kinds.specs.Counted.{CountsAll}
use Rattle.kinds.specs.Renumbered.{Replaces, SamePaths}
use Rattle.kinds.proofs.Numbers.{eq_true, set_read, node_within}
use Rattle.kinds.proofs.EntriesBy.{all_weaker}
use Rattle.kinds.proofs.Chosen.{among_all}

pub node_slot : {N : Type 0} (slots : List (Option N × ℕ)) (n : ℕ) → IsNode (kinds_of slots) n → n < length slots
node_slot slots n x = let lt = node_within (map (λ s. s.0) slots) n x.0 x.1 in let long = length-map slots (λ s. s.0) in omega (arith, lt, long)

-- a slot with another node and the same count
pub replaced : {N : Type 0} (slots : List (Option N × ℕ)) (at : ℕ) (x : N) (count : ℕ) → at < length slots → count ≡ count_at (kinds_of slots) at
    → Replaces (kinds_of slots) x at (kinds_of (set slots at (Some x, count)))
replaced {N} slots at x count lt is = record {
  nodes = λ n. ap (λ l. get_or l n None) (map-set (λ (s : Option N × ℕ). s.0) slots at (Some x, count))
      ∙ set_read (map (λ s. s.0) slots) at n (Some x) None (omega (arith, lt, length-map slots (λ s. s.0)));
  counts = λ n. ap (λ l. get_or l n 0) (map-set (λ (s : Option N × ℕ). s.1) slots at (Some x, count))
      ∙ set_read (map (λ s. s.1) slots) at n count 0 (omega (arith, lt, length-map slots (λ s. s.1))) ∙ same n (n == at) refl;
}
  where
    same : (n : ℕ) (b : Bool) → (n == at) ≡ b → cond b count (get_or (map (λ s. s.1) slots) n 0) ≡ get_or (map (λ s. s.1) slots) n 0
    same n true e = is ∙ sym (ap (λ k. get_or (map (λ s. s.1) slots) k 0) (eq_true n at e))
    same n false e = refl

-- ---- paths with other numbers

alike : (es : Numbers) → map {B = PathOf × ℕ} (λ e. (e.0, 0)) es ≡ map {B = PathOf × ℕ} (λ p. (p, 0)) (map (λ e. e.0) es)
alike [] = refl
alike (e ∷ es) = ap (λ l. (e.0, 0) ∷ l) (alike es)

-- the order is that of the paths
pub order_same : (ms ns : Numbers) → SamePaths ms ns → IsInOrder ms → IsInOrder ns
order_same ms ns same order =
    sym (sorted_rows (λ (n : ℕ). 0) ns) ∙ ap (is_sorted path_cmp) (alike ns ∙ ap (map {B = PathOf × ℕ} (λ p. (p, 0))) same ∙ sym (alike ms))
    ∙ sorted_rows (λ (n : ℕ). 0) ms ∙ order

values_among : (all ps es : Numbers) → AreAmong all ps → map (λ e. e.0) ps ≡ map (λ e. e.0) es → map {B = PathOf × ℕ} (λ e. (e.0, unwrap_or (find path_cmp e.0 all) e.1)) es ≡ ps
values_among all [] [] among same = refl
values_among all [] (e ∷ es) among same = cc
values_among all (p ∷ ps) [] among same = cc
values_among all (p ∷ ps) (e ∷ es) among same =
    let head : e.0 ≡ p.0 = cc in
    let tail : map (λ e. e.0) ps ≡ map (λ e. e.0) es = cc in
    let value : unwrap_or (find path_cmp e.0 all) e.1 ≡ p.1 = ap (λ q. unwrap_or (find path_cmp q all) e.1) head ∙ ap (λ o. unwrap_or o e.1) among.0 in
    λ i. (head i, value i) ∷ values_among all ps es among.1 tail i

-- each path has another number
pub values_all : (ms ns : Numbers) → SamePaths ms ns → IsInOrder ns → with_values ns ms ≡ ns
values_all ms ns same order = values_among ns ns ms (among_all ns order) same

pub sound_counted : {N : Type 0} (old new : KindsOf N) (ns : Numbers) → AreUsed old ns → IsInOrder ns → ((n : ℕ) → count_at old n ≡ 0) → CountsAll old ns new → AreSound new ns
sound_counted old new ns used order fresh c = record {
  order = order;
  used = all_weaker (λ e. IsNode old e.1) (λ e. IsNode new e.1) (λ e x. (x.0, c.nodes e.1 ∙ x.1)) ns used;
  counted = λ n. let is = c.counts n in let none = fresh n in omega (arith, is, none);
}
