-- The files of numbers.
use Rattle.std.proofs.Common.{◌≡◌, ℕ, zero, suc, ◌+◌, ◌<◌, Bool, true, false, cond, List, [], ◌∷◌, ◌++◌, length, map, set, take, drop, get_or, Option, Some, None, refl, sym, ap, subst, ◌∙◌, arith}
use Rattle.std.specs.Prelude.{◌==◌}
use Rattle.std.specs.List.{AllByRecursion}
use Rattle.std.proofs.lemmas.List.{take_more, map-append}
use Rattle.acl_names.specs.Paths.{PathOf}
use Rattle.kinds.specs.Kinds.{KindsOf, node_at, IsNode, Adds}
use Rattle.kinds.specs.Numbered.{Numbers, with_node, entries_by, paths_with, AreUsed}
use Rattle.kinds.specs.Inner.{Extends}
use Rattle.kinds.proofs.Numbers.{eq_self, eq_true}

pub all_weaker : {A : Type 0} (P Q : A → Type 0) → ((x : A) → P x → Q x) → (xs : List A) → AllByRecursion P xs → AllByRecursion Q xs
all_weaker P Q f [] h = tt
all_weaker P Q f (x ∷ xs) h = (f x h.0, all_weaker P Q f xs h.1)

pub all_at : {A : Type 0} (P : A → Type 0) (xs : List A) (i : ℕ) (d : A) → i < length xs → AllByRecursion P xs → P (get_or xs i d)
all_at P [] i d lt h = absurd (omega arith)
all_at P (x ∷ xs) zero d lt h = h.0
all_at P (x ∷ xs) (suc i) d lt h = all_at P xs i d (omega arith) h.1

pub all_set : {A : Type 0} (P : A → Type 0) (xs : List A) (i : ℕ) (y : A) → AllByRecursion P xs → P y → AllByRecursion P (set xs i y)
all_set P [] i y h p = tt
all_set P (x ∷ xs) zero y h p = (p, h.1)
all_set P (x ∷ xs) (suc i) y h p = (h.0, all_set P xs i y h.1 p)

module _ {N : Type 0} where
  pub entry_first : (k : KindsOf N) (e : PathOf × ℕ) (ns : Numbers) (x : N) → node_at k e.1 ≡ Some x → entries_by k (e ∷ ns) ≡ (e.0, x) ∷ entries_by k ns
  entry_first k e ns x h = ap (λ o. with_node e.0 o (entries_by k ns)) h

  with_append : (p : PathOf) (o : Option N) (xs ys : List (PathOf × N)) → with_node p o (xs ++ ys) ≡ with_node p o xs ++ ys
  with_append p None xs ys = refl
  with_append p (Some x) xs ys = refl

  pub entries_append : (k : KindsOf N) (ms ns : Numbers) → entries_by k (ms ++ ns) ≡ entries_by k ms ++ entries_by k ns
  entries_append k [] ns = refl
  entries_append k (e ∷ ms) ns = ap (λ l. with_node e.0 (node_at k e.1) l) (entries_append k ms ns) ∙ with_append e.0 (node_at k e.1) (entries_by k ms) (entries_by k ns)

  -- where the numbers have the same nodes, they are the same files
  pub entries_same : (k k' : KindsOf N) (ns : Numbers) → AllByRecursion (λ e. node_at k' e.1 ≡ node_at k e.1) ns → entries_by k' ns ≡ entries_by k ns
  entries_same k k' [] h = refl
  entries_same k k' (e ∷ ns) h = λ i. with_node e.0 (h.0 i) (entries_same k k' ns h.1 i)

  pub entries_extend : (k k' : KindsOf N) (ns : Numbers) → Extends k k' → AreUsed k ns → entries_by k' ns ≡ entries_by k ns
  entries_extend k k' ns ext used = entries_same k k' ns (all_weaker (λ e. IsNode k e.1) (λ e. node_at k' e.1 ≡ node_at k e.1) (λ e h. ext e.1 h.0 h.1 ∙ sym h.1) ns used)

  pub used_extend : (k k' : KindsOf N) (ns : Numbers) → Extends k k' → AreUsed k ns → AreUsed k' ns
  used_extend k k' ns ext used = all_weaker (λ e. IsNode k e.1) (λ e. IsNode k' e.1) (λ e h. (h.0, ext e.1 h.0 h.1)) ns used

module _ {N : Type 0} where
  pub adds_extends : (k k' : KindsOf N) (y : N) (at : ℕ) → Adds k y at k' → Extends k k'
  adds_extends k k' y at adds n x h = adds.nodes n ∙ by (n == at) refl ∙ h
    where
      by : (b : Bool) → (n == at) ≡ b → cond b (Some y) (node_at k n) ≡ node_at k n
      by false is = refl
      by true is = absurd (none_some (sym adds.free ∙ ap (node_at k) (sym (eq_true n at is)) ∙ h))
        where
          none_some : None ≡ Some x → ⊥
          none_some e = cc

  pub adds_here : (k k' : KindsOf N) (y : N) (at : ℕ) → Adds k y at k' → node_at k' at ≡ Some y
  adds_here k k' y at adds = adds.nodes at ∙ ap (λ b. cond b (Some y) (node_at k at)) (eq_self at)

pub paths_with-append : (n : ℕ) (ms ns : Numbers) → paths_with n (ms ++ ns) ≡ paths_with n ms + paths_with n ns
paths_with-append n [] ns = omega arith
paths_with-append n (e ∷ ms) ns = let h = paths_with-append n ms ns in omega (arith, h)

-- ---- items, one after another

module _ {A B : Type 0} (f : A → B) where
  pub items_more : (xs : List A) (i : ℕ) (x : A) → i < length xs → x ≡ get_or xs i x → map f (take (i + 1) xs) ≡ map f (take i xs) ++ f x ∷ []
  items_more xs i x lt is = ap (map f) (take_more xs i x lt) ∙ map-append f (take i xs) (get_or xs i x ∷ []) ∙ ap (λ y. map f (take i xs) ++ f y ∷ []) (sym is)

  pub items_cut : (xs : List A) (i : ℕ) (x : A) → i < length xs → x ≡ get_or xs i x → map f xs ≡ map f (take i xs) ++ f x ∷ map f (drop (suc i) xs)
  items_cut [] i x lt is = absurd (omega arith)
  items_cut (y ∷ xs) zero x lt is = ap (λ z. f z ∷ map f xs) (sym is)
  items_cut (y ∷ xs) (suc i) x lt is = ap (λ l. f y ∷ l) (items_cut xs i x (omega arith) is)

pub item_used : {A N : Type 0} (f : A → PathOf × ℕ) (k : KindsOf N) (xs : List A) (i : ℕ) (x : A) → AreUsed k (map f xs) → i < length xs → x ≡ get_or xs i x → IsNode k (f x).1
item_used f k [] i x h lt is = absurd (omega arith)
item_used f k (y ∷ xs) zero x h lt is = subst (λ z. IsNode k (f z).1) (sym is) h.0
item_used f k (y ∷ xs) (suc i) x h lt is = item_used f k xs i x h.1 (omega arith) is
