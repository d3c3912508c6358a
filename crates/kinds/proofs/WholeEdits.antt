-- Edits of all entries of a map: its paths keep their numbers.
use Rattle.std.proofs.Common.{◌≡◌, ℕ, ◌+◌, ◌<◌, ◌≤◌, cond, List, [], ◌∷◌, length, map, get_or, ◌++◌, ◌⊎◌, inl, inr, Option, Some, None, Ok}
use Rattle.std.proofs.Common.{Ordering, Less, Equal, Greater, refl, sym, ap, subst, ◌∙◌, arith}
use Rattle.std.specs.List.{AllByRecursion}
use Rattle.std.specs.Ordering.{is_eq}
use Rattle.std.specs.FinMap.{find, is_sorted}
use Rattle.std.specs.FinMap.Entries.{below_all}
use Rattle.std.proofs.lemmas.Bool.{and_parts, cases_lt}
use Rattle.std.proofs.lemmas.List.{get_or_append_left, get_or_push}
use Rattle.std.proofs.lemmas.Cmp.{tied_itself}
use Rattle.acl_names.specs.Paths.{path_cmp, PathOf}
use Rattle.acl_names.proofs.PathOrder.{path_total, exact_paths}
use Rattle.path_map.specs.Entries.{IsInOrder}
use Rattle.path_map.specs.Merged.{put_all}
use Rattle.path_map.specs.Inner.{After}
use Rattle.path_map.proofs.Places.{above, below}
use Rattle.path_map.proofs.Merges.{later_after, put_over}
use Rattle.kinds.specs.Kinds.{KindsOf, node_at, count_at}
use Rattle.kinds.specs.Numbered.{Numbers, Kept, entries_by, entries_in, AreUsed, AreSound}
use Rattle.kinds.specs.Given.{HaveNodes}
use Rattle.kinds.specs.Placed.{placed}
use Rattle.kinds.specs.Inner.{AreAmong}
use Rattle.kinds.specs.Memo.{NodeEdit, and_others, edit_each, EditsUsed, ArePut}
use Rattle.kinds.proofs.Chosen.{in_order_by, paths_same}
use Rattle.kinds.proofs.Counts.{counted_all}
use Rattle.kinds.proofs.EntriesBy.{entry_first}
use Rattle.kinds.proofs.GivenNodes.{used_some}
use Rattle.kinds.proofs.Numbers.{node_within}

-- ---- entries of a map that are as many as those of the map are all of them

among_less : (x : PathOf × ℕ) (ns es : Numbers) → After x.0 es → AreAmong (x ∷ ns) es → AreAmong ns es
among_less x ns [] after h = tt
among_less x ns (e ∷ es) after h = (ap (λ o. cond (is_eq o) (Some x.1) (find path_cmp e.0 ns)) (sym (above x.0 e.0 after.0)) ∙ h.0, among_less x ns es after.1 h.1)

after_same : (p q : PathOf) (es : Numbers) → p ≡ q → After p es → After q es
after_same p q es same h = subst (λ r. After r es) same h

in_order_rest : (e : PathOf × ℕ) (es : Numbers) → IsInOrder (e ∷ es) → IsInOrder es
in_order_rest e es h = (and_parts (below_all path_cmp e.0 es) (is_sorted path_cmp es) h).1

-- a path before all of some is none of them
not_before : (p : PathOf) (n : ℕ) (es : Numbers) → After p es → find path_cmp p es ≡ Some n → ⊥
not_before p n [] after h = cc
not_before p n (e ∷ es) after h = not_before p n es after.1 (ap (λ o. cond (is_eq o) (Some e.1) (find path_cmp p es)) (sym after.0) ∙ h)

after_longer : (x y : PathOf) (es : Numbers) → path_cmp x y ≡ Less → After y es → After x es
after_longer x y [] lt h = tt
after_longer x y (e ∷ es) lt h = (path_total.trans x y e.0 lt h.0, after_longer x y es lt h.1)

found_first : (x e : PathOf × ℕ) (ns : Numbers) → e.0 ≡ x.0 → find path_cmp e.0 (x ∷ ns) ≡ Some e.1 → e.1 ≡ x.1
found_first x e ns same h =
    let here : find path_cmp e.0 (x ∷ ns) ≡ Some x.1 = ap (λ o. cond (is_eq o) (Some x.1) (find path_cmp e.0 ns)) (ap (path_cmp e.0) (sym same) ∙ tied_itself path_total e.0) in
    cc

module _ (x : PathOf × ℕ) (ns : Numbers) (order : IsInOrder (x ∷ ns)) (e : PathOf × ℕ) (es : Numbers) (rises : IsInOrder (e ∷ es)) (among : AreAmong (x ∷ ns) (e ∷ es)) where
  -- the first is the first of all, or all come after that one
  first_or_after : ((e ≡ x) × AreAmong ns es) ⊎ AreAmong ns (e ∷ es)
  first_or_after = by (path_cmp e.0 x.0) refl
    where
      by : (o : Ordering) → path_cmp e.0 x.0 ≡ o → ((e ≡ x) × AreAmong ns es) ⊎ AreAmong ns (e ∷ es)
      by Equal is =
          let same : e.0 ≡ x.0 = exact_paths e.0 x.0 is in
          inl ((λ i. (same i, found_first x e ns same among.0 i)), among_less x ns es (after_same e.0 x.0 es same (later_after e es rises)) among.1)
      by Less is =
          let rest : find path_cmp e.0 ns ≡ Some e.1 = ap (λ o. cond (is_eq o) (Some x.1) (find path_cmp e.0 ns)) (sym is) ∙ among.0 in
          absurd (not_before e.0 e.1 ns (after_longer e.0 x.0 ns is (later_after x ns order)) rest)
      by Greater is =
          let lt : path_cmp x.0 e.0 ≡ Less = below e.0 x.0 is in
          inr (among_less x ns (e ∷ es) (lt, after_longer x.0 e.0 es lt (later_after e es rises)) among)

among_few : (ns es : Numbers) → IsInOrder ns → IsInOrder es → AreAmong ns es → length es ≤ length ns
among_few ns [] order rises among = omega arith
among_few [] (e ∷ es) order rises among = let no = among.0 in cc
among_few (x ∷ ns) (e ∷ es) order rises among =
    elim (first_or_after x ns order e es rises among) [
      | inl first ↦ let few = among_few ns es (in_order_rest x ns order) (in_order_rest e es rises) first.1 in omega (arith, few)
      | inr after ↦ let few = among_few ns (e ∷ es) (in_order_rest x ns order) rises after in omega (arith, few)
    ]

pub all_of_them : (ns es : Numbers) → IsInOrder ns → IsInOrder es → AreAmong ns es → length es ≡ length ns → es ≡ ns
all_of_them [] [] order rises among long = refl
all_of_them [] (e ∷ es) order rises among long = absurd (omega (arith, long))
all_of_them (x ∷ ns) [] order rises among long = absurd (omega (arith, long))
all_of_them (x ∷ ns) (e ∷ es) order rises among long =
    elim (first_or_after x ns order e es rises among) [
      | inl first ↦ λ i. first.0 i ∷ all_of_them ns es (in_order_rest x ns order) (in_order_rest e es rises) first.1 (omega (arith, long)) i
      | inr after ↦ absurd (let few = among_few ns (e ∷ es) (in_order_rest x ns order) rises after in omega (arith, few, long))
    ]

-- ---- entries put in the place of those of the same paths

pub put_same_paths : {N : Type 0} (xs ys : List (PathOf × N)) → IsInOrder xs → map (λ e. e.0) xs ≡ map (λ e. e.0) ys → put_all xs ys ≡ xs
put_same_paths [] [] order same = refl
put_same_paths [] (y ∷ ys) order same = cc
put_same_paths (x ∷ xs) [] order same = cc
put_same_paths (x ∷ xs) (y ∷ ys) order same =
    let first : x.0 ≡ y.0 = cc in
    let rest : map (λ e. e.0) xs ≡ map (λ e. e.0) ys = cc in
    put_over x xs y ys order (ap (path_cmp x.0) (sym first) ∙ tied_itself path_total x.0)
    ∙ ap (λ l. x ∷ l) (put_same_paths xs ys (and_parts (below_all path_cmp x.0 xs) (is_sorted path_cmp xs) order).1 rest)

-- ---- each number that paths have is edited

-- one number more
pub edits_more : {N F : Type 0} (edit : NodeEdit N F) (k : KindsOf N) (xs : List (Option N)) (y : Option N) (m : ℕ) → length xs ≡ m
    → ((n : ℕ) → n < m → EditsUsed edit k n (get_or xs n None)) → EditsUsed edit k m y → (n : ℕ) → n < m + 1 → EditsUsed edit k n (get_or (xs ++ y ∷ []) n None)
edits_more edit k xs y m long each last n lt =
    elim (cases_lt n m) [
      | inl before ↦ subst (EditsUsed edit k n) (sym (get_or_append_left xs (y ∷ []) None n (omega (arith, before, long)))) (each n before)
      | inr past ↦
          let same : n ≡ m = omega (arith, past, lt) in
          subst (λ i. EditsUsed edit k i (get_or (xs ++ y ∷ []) i None)) (sym same) (subst (EditsUsed edit k m) (sym (get_or_push xs y None m long)) last)
    ]

module _ {N F : Type 0} (edit : NodeEdit N F) (k : KindsOf N) (nodes : List (Option N)) (each : (n : ℕ) → n < length k.0 → EditsUsed edit k n (get_or nodes n None)) where
  made_one : (n : ℕ) (x : N) → 0 < count_at k n → node_at k n ≡ Some x → (y : N) × ((get_or nodes n None ≡ Some y) × (edit x ≡ Ok y))
  made_one n x some is = each n (node_within k.0 n x is) x (used_some k n some ∙ is)

  have_each : (ns : Numbers) → AreUsed k ns → AllByRecursion (λ e. 0 < count_at k e.1) ns → HaveNodes nodes ns
  have_each [] used some = tt
  have_each (e ∷ ns) used some = let made = made_one e.1 used.0.0 some.0 used.0.1 in ((made.0, made.1.0), have_each ns used.1 some.1)

  edit_placed : (ns : Numbers) → AreUsed k ns → AllByRecursion (λ e. 0 < count_at k e.1) ns → edit_each edit (entries_by k ns) ≡ Ok (placed nodes ns)
  edit_placed [] used some = refl
  edit_placed (e ∷ ns) used some =
      let made = made_one e.1 used.0.0 some.0 used.0.1 in
      ap (edit_each edit) (entry_first k e ns used.0.0 used.0.1)
      ∙ (λ i. and_others e.0 (made.1.1 i) (edit_placed ns used.1 some.1 i))
      ∙ ap Ok (sym (entry_first (nodes, []) e ns made.0 made.1.0))

  module _ (ns : Numbers) (sound : AreSound k ns) where
    counted : AllByRecursion (λ e. 0 < count_at k e.1) ns
    counted = counted_all (count_at k) ns (λ n. let same = sound.counted n in omega (arith, same))

    pub edited_have : HaveNodes nodes ns
    edited_have = have_each ns sound.used counted

    pub edited_each : edit_each edit (entries_by k ns) ≡ Ok (placed nodes ns)
    edited_each = edit_placed ns sound.used counted

-- all entries of a map were put
pub whole_put : {N : Type 0} (old new : Kept N) → AreSound old.0 old.1 → AreSound new.0 new.1 → new.1 ≡ old.1 → ArePut old new new.1
whole_put old new was sound paths = record {
  used = sound.used;
  put =
      sym (put_same_paths (entries_in new) (entries_in old) (in_order_by new.0 new.1 sound.used sound.order)
      (paths_same new.0 new.1 sound.used ∙ ap (map (λ e. e.0)) paths ∙ sym (paths_same old.0 old.1 was.used)));
}
