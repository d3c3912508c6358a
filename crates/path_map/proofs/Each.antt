-- Entries with other values: their paths and their order stay, and parts are changed by themselves.
use Rattle.std.proofs.Common.{◌≡◌, ℕ, zero, suc, ◌+◌, ◌<◌, ◌≤◌, cond, ◌&&◌, List, [], ◌∷◌, ◌++◌, length, map, take, drop, get_or, Some, None, Ordering, Less}
use Rattle.std.proofs.Common.{Equal, Greater, refl, sym, ap, subst, ◌∙◌, arith, append_assoc}
use Rattle.std.specs.List.{zip, flat_map}
use Rattle.std.specs.Option.{option_or, unwrap_or}
use Rattle.std.specs.Ordering.{is_lt, is_eq}
use Rattle.std.specs.FinMap.{find, is_sorted}
use Rattle.std.specs.FinMap.Entries.{below_all}
use Rattle.std.proofs.lemmas.Cmp.{tied_itself}
use Rattle.std.proofs.lemmas.List.{map-append, drop-drop, drop_more, take-append-drop}
use Rattle.acl_names.specs.Paths.{path_cmp, PathOf}
use Rattle.acl_names.proofs.PathOrder.{path_total, exact_paths}
use Rattle.path_map.specs.Entries.{IsInOrder}
use Rattle.path_map.specs.Changed.{each, with_values}
use Rattle.path_map.specs.Inner.{IsStart, IsPassed, Before, From, After, same_first}
use Rattle.path_map.proofs.Places.{above, below, found_later}
use Rattle.path_map.proofs.Chunks.{find-append, or_none, in_order-right}
use Rattle.path_map.proofs.Joined.{back_order, halves, filled_parts, first_of_parts, before_split, from_split}
use Rattle.path_map.proofs.Shared.{split_seen}
use Rattle.path_map.proofs.Merges.{find_before, find_beyond, from_part, later_after, before_first, from_first}
use Rattle.path_map.proofs.Steps.{start_later, tail_order, same_in_range}

module _ {V : Type 0} (g : PathOf → V → V) where
  pub each-append : (l r : List (PathOf × V)) → each g (l ++ r) ≡ each g l ++ each g r
  each-append [] r = refl
  each-append (e ∷ l) r = ap (λ es. (e.0, g e.0 e.1) ∷ es) (each-append l r)

  below-each : (p : PathOf) (es : List (PathOf × V)) → below_all path_cmp p (each g es) ≡ below_all path_cmp p es
  below-each p [] = refl
  below-each p (e ∷ es) = ap (λ b. is_lt (path_cmp p e.0) && b) (below-each p es)

  sorted-each : (es : List (PathOf × V)) → is_sorted path_cmp (each g es) ≡ is_sorted path_cmp es
  sorted-each [] = refl
  sorted-each (e ∷ es) = λ i. below-each e.0 es i && sorted-each es i

  pub in_order-each : (es : List (PathOf × V)) → IsInOrder es → IsInOrder (each g es)
  in_order-each es h = sorted-each es ∙ h

  -- paths with other values beside them
  pub each_zip : (es : List (PathOf × V)) → zip (map (λ e. e.0) es) (map (λ e. e.1) (each g es)) ≡ each g es
  each_zip [] = refl
  each_zip (e ∷ es) = ap (λ l. (e.0, g e.0 e.1) ∷ l) (each_zip es)

-- ---- values by their paths

module _ {V : Type 0} where
  find_early : (q : PathOf) (p : PathOf × V) (ps : List (PathOf × V)) → IsInOrder (p ∷ ps) → path_cmp q p.0 ≡ Less → find path_cmp q (p ∷ ps) ≡ None
  find_early q p ps h lt = find_before q p.0 (p ∷ ps) lt (from_part p ps h)

  with_back : (p : PathOf × V) (ps es : List (PathOf × V)) → After p.0 es → with_values (p ∷ ps) es ≡ with_values ps es
  with_back p ps [] h = refl
  with_back p ps (e ∷ es) h = (λ i. (e.0, unwrap_or (found_later e.0 p ps Greater (above p.0 e.0 h.0) refl i) e.1) ∷ with_back p ps es h.1 i)

  -- up to an entry of its path the values are those with it alone, and after that those with the others
  pub with_step : (p : PathOf × V) (ps es : List (PathOf × V)) (k : ℕ) → IsInOrder (p ∷ ps) → IsInOrder es → IsStart es p.0 k
      → with_values (p ∷ ps) es ≡ take (k + same_first p.0 (drop k es)) (with_values (p ∷ []) es) ++ with_values ps (drop (k + same_first p.0 (drop k es)) es)
  with_step p ps [] zero h order s = refl
  with_step p ps [] (suc k) h order s = absurd (let le : suc k ≤ 0 = s.in_range in omega arith)
  with_step p ps (e ∷ es) zero h order s = by (path_cmp p.0 e.0) refl
    where
      total : ℕ → Type 0
      total n = with_values (p ∷ ps) (e ∷ es) ≡ take (0 + n) (with_values (p ∷ []) (e ∷ es)) ++ with_values ps (drop (0 + n) (e ∷ es))

      by : (o : Ordering) → path_cmp p.0 e.0 ≡ o → total (cond (is_eq (path_cmp p.0 e.0)) 1 0)
      by Less is =
          subst (λ o. total (cond (is_eq o) 1 0)) (sym is)
          (with_back p ps (e ∷ es) (is, after_later es (later_after e es order)))
        where
          after_later : (xs : List (PathOf × V)) → After e.0 xs → After p.0 xs
          after_later [] a = tt
          after_later (x ∷ xs) a = (path_total.trans p.0 e.0 x.0 is a.0, after_later xs a.1)
      by Equal is =
          let same : path_cmp e.0 p.0 ≡ Equal = ap (λ q. path_cmp q p.0) (sym (exact_paths p.0 e.0 is)) ∙ tied_itself path_total p.0 in
          subst (λ o. total (cond (is_eq o) 1 0)) (sym is)
          (
          (λ i. (e.0, unwrap_or (cond (is_eq (same i)) (Some p.1) (find path_cmp e.0 ps)) e.1) ∷ with_back p ps es (subst (λ q. After q es) (sym (exact_paths p.0 e.0 is)) (later_after e es order)) i)
          ∙ ap (λ o. (e.0, unwrap_or (cond (is_eq o) (Some p.1) None) e.1) ∷ with_values ps es) (sym same)
          )
      by Greater is = absurd (s.from 0 e (omega arith) (omega arith) is)
  with_step p ps (e ∷ es) (suc k) h order s =
      let lt : path_cmp e.0 p.0 ≡ Less = below p.0 e.0 (s.before 0 e (omega arith)) in
      let n = k + same_first p.0 (drop k es) in
      let more : suc k + same_first p.0 (drop k es) ≡ suc n = omega arith in
      (λ i. (e.0, unwrap_or (find_early e.0 p ps h lt i) e.1) ∷ with_step p ps es k h (tail_order e es order) (start_later e es p.0 k s) i)
      ∙ ap (λ o. (e.0, unwrap_or o e.1) ∷ (take n (with_values (p ∷ []) es) ++ with_values ps (drop n es))) (sym (find_early e.0 p [] refl lt))
      ∙ ap (λ m. take m (with_values (p ∷ []) (e ∷ es)) ++ with_values ps (drop m (e ∷ es))) (sym more)

  -- before an entry of its path nothing is changed, and there its value is
  pub with_before : (p : PathOf × V) (es : List (PathOf × V)) (k : ℕ) → IsStart es p.0 k → take k (with_values (p ∷ []) es) ≡ take k es
  with_before p es zero s = refl
  with_before p [] (suc k) s = refl
  with_before p (e ∷ es) (suc k) s =
      λ i. (e.0, unwrap_or (find_early e.0 p [] refl (below p.0 e.0 (s.before 0 e (omega arith))) i) e.1) ∷ with_before p es k (start_later e es p.0 k s) i

  pub with_here : (p : PathOf × V) (es : List (PathOf × V)) (k : ℕ) → IsStart es p.0 k → same_first p.0 (drop k es) ≡ 1
      → map (λ e. e.1) (take (k + 1) (with_values (p ∷ []) es)) ≡ map (λ e. e.1) (take k es) ++ p.1 ∷ []
  with_here p [] zero s same = absurd (omega (arith, same))
  with_here p [] (suc k) s same = absurd (let le : suc k ≤ 0 = s.in_range in omega arith)
  with_here p (e ∷ es) zero s same = by (path_cmp p.0 e.0) refl
    where
      by : (o : Ordering) → path_cmp p.0 e.0 ≡ o → unwrap_or (cond (is_eq (path_cmp e.0 p.0)) (Some p.1) None) e.1 ∷ [] ≡ p.1 ∷ []
      by Less is = absurd (let no : 0 ≡ 1 = ap (λ o. cond (is_eq o) 1 0) (sym is) ∙ same in omega (arith, no))
      by Equal is =
          let tied : path_cmp e.0 p.0 ≡ Equal = ap (λ q. path_cmp q p.0) (sym (exact_paths p.0 e.0 is)) ∙ tied_itself path_total p.0 in
          ap (λ o. unwrap_or (cond (is_eq o) (Some p.1) None) e.1 ∷ []) tied
      by Greater is = absurd (let no : 0 ≡ 1 = ap (λ o. cond (is_eq o) 1 0) (sym is) ∙ same in omega (arith, no))
  with_here p (e ∷ es) (suc k) s same =
      ap (λ n. map (λ e. e.1) (take n (with_values (p ∷ []) (e ∷ es)))) {x = suc k + 1} {y = suc (k + 1)} (omega arith)
      ∙ (λ i. unwrap_or (find_early e.0 p [] refl (below p.0 e.0 (s.before 0 e (omega arith))) i) e.1 ∷ with_here p es k (start_later e es p.0 k s) same i)

  pub in_order-drop : (n : ℕ) (es : List (PathOf × V)) → IsInOrder es → IsInOrder (drop n es)
  in_order-drop n es h = in_order-right (take n es) (drop n es) (subst IsInOrder (sym (take-append-drop n es)) h)

  pub passed_in_range : (es : List (PathOf × V)) (p : PathOf) (n : ℕ) → IsPassed es p n → n ≤ length es
  passed_in_range es p n s = omega (arith, s.same, same_in_range p es s.before s.start.in_range)

  -- ---- in two parts

  with_left : (q : PathOf) (ps qs l : List (PathOf × V)) → From q qs → Before q l → with_values (ps ++ qs) l ≡ with_values ps l
  with_left q ps qs [] f b = refl
  with_left q ps qs (e ∷ l) f b =
      let same : find path_cmp e.0 (ps ++ qs) ≡ find path_cmp e.0 ps = find-append e.0 ps qs
      ∙ ap (λ o. option_or (find path_cmp e.0 ps) o) (find_before e.0 q qs b.0 f) ∙ or_none (find path_cmp e.0 ps) in
      λ i. (e.0, unwrap_or (same i) e.1) ∷ with_left q ps qs l f b.1 i

  with_right : (q : PathOf) (ps qs r : List (PathOf × V)) → Before q ps → From q r → with_values (ps ++ qs) r ≡ with_values qs r
  with_right q ps qs [] b f = refl
  with_right q ps qs (e ∷ r) b f =
      let same : find path_cmp e.0 (ps ++ qs) ≡ find path_cmp e.0 qs = find-append e.0 ps qs ∙ ap (λ o. option_or o (find path_cmp e.0 qs)) (find_beyond e.0 q ps f.0 b) in
      λ i. (e.0, unwrap_or (same i) e.1) ∷ with_right q ps qs r b f.1 i

  with_split : (q : PathOf) (ps qs l r : List (PathOf × V)) → Before q ps → From q qs → Before q l → From q r → with_values (ps ++ qs) (l ++ r) ≡ with_values ps l ++ with_values qs r
  with_split q ps qs l r bp fq bl fr = each-append _ l r ∙ (λ i. with_left q ps qs l fq bl i ++ with_right q ps qs r bp fr i)

  -- with no other values
  pub with_none : (puts es : List (PathOf × V)) → puts ≡ [] → with_values puts es ≡ es
  with_none puts es none = ap (λ (ps : List (PathOf × V)). with_values ps es) none ∙ all_kept es
    where
      all_kept : (es : List (PathOf × V)) → with_values [] es ≡ es
      all_kept [] = refl
      all_kept (e ∷ es) = ap (λ l. e ∷ l) (all_kept es)

-- one more of the others
module _ {B V : Type 0} (e : B → PathOf × V) where
  pub with_more : (es rest : List (PathOf × V)) (puts : List B) (at i n : ℕ) (p : B) (new made : List V) (total : List V)
      → i < length puts → p ≡ get_or puts i p → IsInOrder (map e puts) → IsInOrder es → rest ≡ drop at es
      → IsPassed rest (e p).0 n → made ≡ new ++ map (λ e. e.1) (take n (with_values (e p ∷ []) rest))
      → new ++ map (λ e. e.1) (with_values (map e (drop i puts)) (drop at es)) ≡ total
      → made ++ map (λ e. e.1) (with_values (map e (drop (i + 1) puts)) (drop (at + n) es)) ≡ total
  with_more es rest puts at i n p new made total lt is_p order_puts order is_rest passed is_made so_far =
      let later = drop (i + 1) puts in
      let now : drop i puts ≡ p ∷ later = drop_more puts i p lt ∙ ap (λ x. x ∷ later) (sym is_p) in
      let h : IsInOrder (e p ∷ map e later) = subst (λ l. IsInOrder (map e l)) now (back_order e i puts (take i puts) (drop i puts) refl refl order_puts) in
      let rest_order : IsInOrder rest = subst IsInOrder (sym is_rest) (in_order-drop at es order) in
      let m = passed.before + same_first (e p).0 (drop passed.before rest) in
      let step : with_values (map e (drop i puts)) (drop at es) ≡ take n (with_values (e p ∷ []) rest) ++ with_values (map e later) (drop n rest) =
      (λ j. with_values (map e (now j)) (sym is_rest j))
      ∙ with_step (e p) (map e later) rest passed.before h rest_order passed.start
      ∙ ap (λ k. take k (with_values (e p ∷ []) rest) ++ with_values (map e later) (drop k rest)) (sym passed.same)
      in
      ap (λ l. l ++ map (λ e. e.1) (with_values (map e later) (drop (at + n) es))) is_made
      ∙ append_assoc new (map (λ e. e.1) (take n (with_values (e p ∷ []) rest))) (map (λ e. e.1) (with_values (map e later) (drop (at + n) es)))
      ∙ ap (λ l. new ++ l) (
      ap (λ l. map (λ e. e.1) (take n (with_values (e p ∷ []) rest)) ++ map (λ e. e.1) (with_values (map e later) l)) (sym (ap (drop n) is_rest ∙ drop-drop n at es))
      ∙ sym (map-append (λ e. e.1) (take n (with_values (e p ∷ []) rest)) (with_values (map e later) (drop n rest)))
      ∙ ap (λ l. map (λ e. e.1) l) (sym step)
      )
      ∙ so_far

module _ {A B V : Type 0} (f : A → List (PathOf × V)) (e : B → PathOf × V) where
  pub with_joined : (n i : ℕ) (chunks left right : List A) (puts puts_left puts_right : List B) (c : A) (q : PathOf) (old mid new : List (PathOf × V))
      → IsInOrder (flat_map f chunks) → left ≡ take n chunks → right ≡ drop n chunks
      → 0 < length right → c ≡ get_or right 0 c → 0 < length (f c) → ((d : PathOf × V) → q ≡ (get_or (f c) 0 d).0)
      → IsStart (map e puts) q i → puts_left ≡ take i puts → puts_right ≡ drop i puts
      → mid ≡ old ++ with_values (map e puts_left) (flat_map f left)
      → new ≡ mid ++ with_values (map e puts_right) (flat_map f right)
      → new ≡ old ++ with_values (map e puts) (flat_map f chunks)
  with_joined n i chunks left right puts puts_left puts_right c q old mid new h is_left is_right some is filled is_q start_puts pl pr first second =
      let whole : flat_map f left ++ flat_map f right ≡ flat_map f chunks = halves f n chunks left right is_left is_right in
      let order : IsInOrder (flat_map f left ++ flat_map f right) = subst IsInOrder (sym whole) h in
      let filled_right : 0 < length (flat_map f right) = filled_parts f right c some is filled in
      let begins : (d : PathOf × V) → q ≡ (get_or (flat_map f right) 0 d).0 = λ d. is_q d ∙ ap (λ x. x.0) (first_of_parts f right c some is filled d) in
      second
      ∙ ap (λ l. l ++ with_values (map e puts_right) (flat_map f right)) first
      ∙ append_assoc old (with_values (map e puts_left) (flat_map f left)) (with_values (map e puts_right) (flat_map f right))
      ∙ ap (λ l. old ++ l)
      (sym (with_split q (map e puts_left) (map e puts_right) (flat_map f left) (flat_map f right)
      (before_split e i puts puts_left q pl start_puts) (from_split e i puts puts_right q pr start_puts)
      (before_first (flat_map f left) (flat_map f right) q order filled_right begins)
      (from_first (flat_map f right) q (in_order-right (flat_map f left) (flat_map f right) order) filled_right begins))
      ∙ (λ k. with_values (split_seen e i puts puts_left puts_right pl pr k) (whole k)))
