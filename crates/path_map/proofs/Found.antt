-- The values of paths in path order, found in two parts.
use Rattle.std.proofs.Common.{◌≡◌, ℕ, ◌+◌, ◌<◌, true, false, cond, nat_eq, IsTrue, List, [], ◌∷◌, ◌++◌, length, map, take, drop, get_or, Option, is_some}
use Rattle.std.proofs.Common.{Ordering, Less, Equal, Greater, refl, sym, ap, subst, ◌∙◌, append_assoc}
use Rattle.std.specs.List.{flat_map}
use Rattle.std.specs.Option.{option_or}
use Rattle.std.specs.Ordering.{is_eq}
use Rattle.std.specs.FinMap.{find, is_sorted}
use Rattle.std.specs.FinMap.Entries.{below_all}
use Rattle.std.proofs.lemmas.Bool.{and_parts}
use Rattle.std.proofs.lemmas.List.{map-append, drop-drop, drop_more, take-append-drop}
use Rattle.acl_names.specs.Paths.{path_cmp, PathOf}
use Rattle.acl_names.proofs.PathOrder.{exact_paths}
use Rattle.acl_names.proofs.Basics.{is_less}
use Rattle.path_map.specs.Entries.{IsInOrder, found}
use Rattle.path_map.specs.Inner.{IsStart, IsPassed, Before, From, same_first}
use Rattle.path_map.proofs.Places.{above, found_later}
use Rattle.path_map.proofs.Chunks.{find-append, or_none, in_order-right}
use Rattle.path_map.proofs.Joined.{back_order, halves, filled_parts, first_of_parts, before_split, from_split}
use Rattle.path_map.proofs.Shared.{split_seen}
use Rattle.path_map.proofs.Steps.{has_at}
use Rattle.path_map.proofs.Merges.{find_before, find_beyond, from_part, before_start, before_first, from_first}

module _ {V W : Type 0} where
  found_left : (q : PathOf) (qs : List (PathOf × W)) (l r : List (PathOf × V)) → Before q qs → From q r → found qs (l ++ r) ≡ found qs l
  found_left q [] l r b f = refl
  found_left q (a ∷ qs) l r b f =
      λ i. (find-append a.0 l r ∙ ap (λ o. option_or (find path_cmp a.0 l) o) (find_before a.0 q r b.0 f) ∙ or_none (find path_cmp a.0 l)) i ∷ found_left q qs l r b.1 f i

  found_right : (q : PathOf) (qs : List (PathOf × W)) (l r : List (PathOf × V)) → From q qs → Before q l → found qs (l ++ r) ≡ found qs r
  found_right q [] l r f b = refl
  found_right q (a ∷ qs) l r f b =
      λ i. (find-append a.0 l r ∙ ap (λ o. option_or o (find path_cmp a.0 r)) (find_beyond a.0 q l f.0 b)) i ∷ found_right q qs l r f.1 b i

  found_split : (q : PathOf) (qs bs : List (PathOf × W)) (l r : List (PathOf × V)) → Before q qs → From q bs → Before q l → From q r → found (qs ++ bs) (l ++ r) ≡ found qs l ++ found bs r
  found_split q qs bs l r ba fb bl fr = map-append (λ a. find path_cmp a.0 (l ++ r)) qs bs ∙ (λ i. found_left q qs l r ba fr i ++ found_right q bs l r fb bl i)

module _ {A B V W : Type 0} (f : A → List (PathOf × V)) (e : B → PathOf × W) where
  pub found_joined : (n i : ℕ) (chunks left right : List A) (asked asked_left asked_right : List B) (c : A) (q : PathOf) (old mid new : List (Option V))
      → IsInOrder (flat_map f chunks) → left ≡ take n chunks → right ≡ drop n chunks
      → 0 < length right → c ≡ get_or right 0 c → 0 < length (f c) → ((d : PathOf × V) → q ≡ (get_or (f c) 0 d).0)
      → IsStart (map e asked) q i → asked_left ≡ take i asked → asked_right ≡ drop i asked
      → mid ≡ old ++ found (map e asked_left) (flat_map f left)
      → new ≡ mid ++ found (map e asked_right) (flat_map f right)
      → new ≡ old ++ found (map e asked) (flat_map f chunks)
  found_joined n i chunks left right asked asked_left asked_right c q old mid new h is_left is_right some is filled is_q start_asked pl pr first second =
      let whole : flat_map f left ++ flat_map f right ≡ flat_map f chunks = halves f n chunks left right is_left is_right in
      let order : IsInOrder (flat_map f left ++ flat_map f right) = subst IsInOrder (sym whole) h in
      let filled_right : 0 < length (flat_map f right) = filled_parts f right c some is filled in
      let begins : (d : PathOf × V) → q ≡ (get_or (flat_map f right) 0 d).0 = λ d. is_q d ∙ ap (λ x. x.0) (first_of_parts f right c some is filled d) in
      second
      ∙ ap (λ l. l ++ found (map e asked_right) (flat_map f right)) first
      ∙ append_assoc old (found (map e asked_left) (flat_map f left)) (found (map e asked_right) (flat_map f right))
      ∙ ap (λ l. old ++ l)
      (sym (found_split q (map e asked_left) (map e asked_right) (flat_map f left) (flat_map f right)
      (before_split e i asked asked_left q pl start_asked) (from_split e i asked asked_right q pr start_asked)
      (before_first (flat_map f left) (flat_map f right) q order filled_right begins)
      (from_first (flat_map f right) q (in_order-right (flat_map f left) (flat_map f right) order) filled_right begins))
      ∙ (λ k. found (split_seen e i asked asked_left asked_right pl pr k) (whole k)))

-- the value of one more path
module _ {B V W : Type 0} (e : B → PathOf × W) where
  pub found_more : (es rest : List (PathOf × V)) (asked : List B) (at i k : ℕ) (p : B) (new made total : List (Option V))
      → i < length asked → p ≡ get_or asked i p → IsInOrder (map e asked) → rest ≡ drop at es → IsStart rest (e p).0 k
      → made ≡ new ++ find path_cmp (e p).0 rest ∷ []
      → new ++ found (map e (drop i asked)) (drop at es) ≡ total
      → made ++ found (map e (drop (i + 1) asked)) (drop (at + k) es) ≡ total
  found_more es rest asked at i k p new made total lt is_p order is_rest s is_made so_far =
      let more = drop (i + 1) asked in
      let now : drop i asked ≡ p ∷ more = drop_more asked i p lt ∙ ap (λ x. x ∷ more) (sym is_p) in
      let h : IsInOrder (e p ∷ map e more) = subst (λ l. IsInOrder (map e l)) now (back_order e i asked (take i asked) (drop i asked) refl refl order) in
      let later : found (map e more) rest ≡ found (map e more) (drop k rest) =
      ap (λ l. found (map e more) l) (sym (take-append-drop k rest))
      ∙ found_right (e p).0 (map e more) (take k rest) (drop k rest) (from_part (e p) (map e more) h).1 (before_start rest (e p).0 k s)
      in
      ap (λ l. l ++ found (map e more) (drop (at + k) es)) is_made
      ∙ append_assoc new (find path_cmp (e p).0 rest ∷ []) (found (map e more) (drop (at + k) es))
      ∙ ap (λ l. new ++ (find path_cmp (e p).0 rest ∷ l)) (ap (λ l. found (map e more) l) (sym (ap (drop k) is_rest ∙ drop-drop k at es)) ∙ sym later)
      ∙ (λ j. new ++ found (map e (sym now j)) (is_rest j))
      ∙ so_far

module _ {V : Type 0} where
  same_by_test : (p : PathOf) (es : List (PathOf × V)) → same_first p es ≡ cond (nat_eq (same_first p es) 1) 1 0
  same_by_test p [] = refl
  same_by_test p (e ∷ es) = elim (is_eq (path_cmp p e.0)) as (λ b. ◌≡◌ {A = ℕ} (cond b 1 0) (cond (nat_eq (cond b 1 0) 1) 1 0)) [ true ↦ refl | false ↦ refl ]

  -- at its start a path has one entry, if it is found
  pub same_by_find : (p : PathOf) (es : List (PathOf × V)) (k : ℕ) → IsInOrder es → IsStart es p k → same_first p (drop k es) ≡ cond (is_some (find path_cmp p es)) 1 0
  same_by_find p es k h s = same_by_test p (drop k es) ∙ ap (λ b. cond b 1 0) (has_at p es k h s)

module _ {V W : Type 0} where
  found_after : (e : PathOf × V) (es : List (PathOf × V)) (more : List (PathOf × W)) → IsTrue (below_all path_cmp e.0 more) → found more (e ∷ es) ≡ found more es
  found_after e es [] h = refl
  found_after e es (a ∷ more) h =
      let parts = and_parts _ _ h in
      λ i. found_later a.0 e es Greater (above e.0 a.0 (is_less _ parts.0)) refl i ∷ found_after e es more parts.1 i

  -- what other paths are after is not looked for
  found_past : (p : PathOf) (es : List (PathOf × V)) (more : List (PathOf × W)) → IsTrue (below_all path_cmp p more) → found more es ≡ found more (drop (same_first p es) es)
  found_past p [] more h = refl
  found_past p (e ∷ es) more h = by (path_cmp p e.0) refl
    where
      by : (o : Ordering) → path_cmp p e.0 ≡ o → found more (e ∷ es) ≡ found more (drop (cond (is_eq (path_cmp p e.0)) 1 0) (e ∷ es))
      by Less is = ap (λ o. found more (drop (cond (is_eq o) 1 0) (e ∷ es))) (sym is)
      by Equal is =
          found_after e es more (subst (λ q. IsTrue (below_all path_cmp q more)) (exact_paths p e.0 is) h)
          ∙ ap (λ o. found more (drop (cond (is_eq o) 1 0) (e ∷ es))) (sym is)
      by Greater is = ap (λ o. found more (drop (cond (is_eq o) 1 0) (e ∷ es))) (sym is)

-- the same, with an entry of that path passed over
module _ {B V W : Type 0} (e : B → PathOf × W) where
  pub found_passed : (es rest : List (PathOf × V)) (asked : List B) (at i n : ℕ) (p : B) (new made total : List (Option V))
      → i < length asked → p ≡ get_or asked i p → IsInOrder (map e asked) → rest ≡ drop at es → IsPassed rest (e p).0 n
      → made ≡ new ++ find path_cmp (e p).0 rest ∷ []
      → new ++ found (map e (drop i asked)) (drop at es) ≡ total
      → made ++ found (map e (drop (i + 1) asked)) (drop (at + n) es) ≡ total
  found_passed es rest asked at i n p new made total lt is_p order is_rest passed is_made so_far =
      let more = map e (drop (i + 1) asked) in
      let k = passed.before in
      let same = same_first (e p).0 (drop k rest) in
      let now : drop i asked ≡ p ∷ drop (i + 1) asked = drop_more asked i p lt ∙ ap (λ x. x ∷ drop (i + 1) asked) (sym is_p) in
      let h : IsInOrder (e p ∷ more) = subst (λ l. IsInOrder (map e l)) now (back_order e i asked (take i asked) (drop i asked) refl refl order) in
      let later : IsTrue (below_all path_cmp (e p).0 more) = (and_parts (below_all path_cmp (e p).0 more) (is_sorted path_cmp more) h).0 in
      let from : drop k rest ≡ drop (at + k) es = ap (drop k) is_rest ∙ drop-drop k at es in
      let past : drop same (drop k rest) ≡ drop (at + n) es = drop-drop same k rest ∙ ap (λ m. drop m rest) (sym passed.same) ∙ ap (drop n) is_rest ∙ drop-drop n at es in
      ap (λ l. made ++ found more l) (sym past)
      ∙ ap (λ l. made ++ l) (sym (found_past (e p).0 (drop k rest) more later))
      ∙ ap (λ l. made ++ found more l) from
      ∙ found_more e es rest asked at i k p new made total lt is_p order is_rest passed.start is_made so_far
