-- Nodes by numbers, and counts.
use Rattle.std.proofs.Common.{◌≡◌, ◌≢◌, ℕ, zero, suc, ◌-◌, ◌<◌, ◌≤◌, Bool, true, false, cond, List, [], ◌∷◌, ◌++◌, length, map, set, get_or}
use Rattle.std.proofs.Common.{get_or-set_same, get_or-set_other, Option, Some, None, refl, sym, ap, ◌∙◌, arith, ltb-true, ltb-false}
use Rattle.std.specs.Prelude.{◌==◌, nat_lt, slice_get, unwrap_or, if◌then◌else◌}
use Rattle.std.proofs.lemmas.Option.{slice_get_within}
use Rattle.std.proofs.lemmas.List.{get_or_past, map-set, map-append, length-map}
use Rattle.std.proofs.lemmas.Bool.Decides.{nat_tests}
use Rattle.kinds.specs.Kinds.{kinds_of, HasRoom, Adds, Releases}

pub eq_self : (n : ℕ) → (n == n) ≡ true
eq_self n = grind (arith, nat_tests)

pub eq_true : (n m : ℕ) → (n == m) ≡ true → n ≡ m
eq_true n m h = grind (arith, nat_tests)

pub eq_false : (n m : ℕ) → (n == m) ≡ false → n ≢ m
eq_false n m h e = absurd (no (sym h ∙ ap (λ k. k == m) e ∙ eq_self m))
  where
    no : false ≡ true → ⊥
    no e = cc

pub none_got : {A : Type 0} (xs : List A) (i : ℕ) (d : A) → slice_get xs i ≡ None → get_or xs i d ≡ d
none_got [] i d h = refl
none_got (x ∷ xs) zero d h = cc
none_got (x ∷ xs) (suc i) d h = none_got xs i d h

-- what is at a place after a write
pub set_read : {A : Type 0} (xs : List A) (i n : ℕ) (y d : A) → i < length xs → get_or (set xs i y) n d ≡ (if n == i then y else get_or xs n d)
set_read xs i n y d lt = by (n == i) refl
  where
    by : (b : Bool) → (n == i) ≡ b → get_or (set xs i y) n d ≡ cond b y (get_or xs n d)
    by true is = let e = eq_true n i is in ap (λ k. get_or (set xs i y) k d) e ∙ get_or-set_same xs i y d lt
    by false is = get_or-set_other xs i n y d (eq_false n i is)

-- and where nothing is written
pub set_none : {A : Type 0} (xs : List A) (i n : ℕ) (y d : A) → length xs ≤ i → get_or (set xs i y) n d ≡ get_or xs n d
set_none [] i n y d h = refl
set_none (x ∷ xs) zero n y d h = absurd (omega arith)
set_none (x ∷ xs) (suc i) zero y d h = refl
set_none (x ∷ xs) (suc i) (suc n) y d h = set_none xs i n y d (omega arith)

push_here : {A : Type 0} (xs : List A) (y d : A) → get_or (xs ++ y ∷ []) (length xs) d ≡ y
push_here [] y d = refl
push_here (x ∷ xs) y d = push_here xs y d

push_other : {A : Type 0} (xs : List A) (n : ℕ) (y d : A) → n ≢ length xs → get_or (xs ++ y ∷ []) n d ≡ get_or xs n d
push_other [] zero y d h = absurd (h refl)
push_other [] (suc n) y d h = refl
push_other (x ∷ xs) zero y d h = refl
push_other (x ∷ xs) (suc n) y d h = push_other xs n y d (λ e. h (ap suc e))

pub push_read : {A : Type 0} (xs : List A) (n : ℕ) (y d : A) → get_or (xs ++ y ∷ []) n d ≡ (if n == length xs then y else get_or xs n d)
push_read xs n y d = by (n == length xs) refl
  where
    by : (b : Bool) → (n == length xs) ≡ b → get_or (xs ++ y ∷ []) n d ≡ cond b y (get_or xs n d)
    by true is = let e = eq_true n (length xs) is in ap (λ k. get_or (xs ++ y ∷ []) k d) e ∙ push_here xs y d
    by false is = push_other xs n y d (eq_false n (length xs) is)

-- a default more at the end changes nothing
pub push_default : {A : Type 0} (xs : List A) (n : ℕ) (d : A) → get_or (xs ++ d ∷ []) n d ≡ get_or xs n d
push_default [] zero d = refl
push_default [] (suc n) d = refl
push_default (x ∷ xs) zero d = refl
push_default (x ∷ xs) (suc n) d = push_default xs n d

-- ---- numbers in use

pub node_within : {N : Type 0} (nodes : List (Option N)) (n : ℕ) (x : N) → get_or nodes n None ≡ Some x → n < length nodes
node_within [] n x h = cc
node_within (y ∷ nodes) zero x h = omega arith
node_within (y ∷ nodes) (suc n) x h = let lt = node_within nodes n x h in omega arith

-- ---- what the code does

-- what a list of parts has at a place
pub got_at : {A B : Type 0} (f : A → B) (xs : List A) (i : ℕ) (x : A) (d : B) → slice_get xs i ≡ Some x → get_or (map f xs) i d ≡ f x
got_at f [] i x d h = cc
got_at f (y ∷ xs) zero x d h = ap (λ o. f (unwrap_or o y)) h
got_at f (y ∷ xs) (suc i) x d h = got_at f xs i x d h

pub none_at : {A B : Type 0} (f : A → B) (xs : List A) (i : ℕ) (d : B) → slice_get xs i ≡ None → get_or (map f xs) i d ≡ d
none_at f [] i d h = refl
none_at f (y ∷ xs) zero d h = cc
none_at f (y ∷ xs) (suc i) d h = none_at f xs i d h

pub room : {N : Type 0} (slots : List (Option N × ℕ)) → HasRoom (kinds_of slots)
room slots = length-map slots (λ s. s.1) ∙ sym (length-map slots (λ s. s.0))

set_none_at : {A B : Type 0} (f : A → B) (xs : List A) (i : ℕ) (y : B) → slice_get xs i ≡ None → map f xs ≡ set (map f xs) i y
set_none_at f [] i y h = refl
set_none_at f (x ∷ xs) zero y h = cc
set_none_at f (x ∷ xs) (suc i) y h = ap (λ l. f x ∷ l) (set_none_at f xs i y h)

pub none_counted : {N : Type 0} (slots : List (Option N × ℕ)) (at count : ℕ) → slice_get slots at ≡ None → kinds_of slots ≡ ((kinds_of slots).0, set (kinds_of slots).1 at count)
none_counted slots at count h = λ i. (map (λ s. s.0) slots, set_none_at (λ s. s.1) slots at count h i)

same_nodes : {N : Type 0} (slots : List (Option N × ℕ)) (at : ℕ) (s : Option N × ℕ) (count : ℕ) → slice_get slots at ≡ Some s → map (λ s. s.0) (set slots at (s.0, count)) ≡ map (λ s. s.0) slots
same_nodes [] at s count h = refl
same_nodes (x ∷ slots) zero s count h = ap (λ o. (unwrap_or o x).0 ∷ map (λ s. s.0) slots) (sym h)
same_nodes (x ∷ slots) (suc at) s count h = ap (λ l. x.0 ∷ l) (same_nodes slots at s count h)

pub counted_at : {N : Type 0} (slots : List (Option N × ℕ)) (at : ℕ) (s : Option N × ℕ) (count : ℕ) → slice_get slots at ≡ Some s
    → kinds_of (set slots at (s.0, count)) ≡ ((kinds_of slots).0, set (kinds_of slots).1 at count)
counted_at slots at s count h = λ i. (same_nodes slots at s count h i, map-set (λ (s : Option _ × ℕ). s.1) slots at (s.0, count) i)

pub reused : {N : Type 0} (slots : List (Option N × ℕ)) (at : ℕ) (x : N) → slice_get slots at ≡ Some (None, 0) → Adds (kinds_of slots) x at (kinds_of (set slots at (Some x, 0)))
reused {N} slots at x h = record {
  free = got_at (λ s. s.0) slots at (None, 0) None h;
  nodes = λ n. ap (λ l. get_or l n None) (map-set (λ (s : Option N × ℕ). s.0) slots at (Some x, 0))
      ∙ set_read (map (λ s. s.0) slots) at n (Some x) None (omega (arith, lt, length-map slots (λ s. s.0)));
  counts = λ n. ap (λ l. get_or l n 0) (map-set (λ (s : Option N × ℕ). s.1) slots at (Some x, 0))
      ∙ set_read (map (λ s. s.1) slots) at n 0 0 (omega (arith, lt, length-map slots (λ s. s.1))) ∙ same n (n == at) refl;
}
  where
    lt : at < length slots
    lt = slice_get_within slots at (None, 0) h

    same : (n : ℕ) (b : Bool) → (n == at) ≡ b → cond b 0 (get_or (map (λ s. s.1) slots) n 0) ≡ get_or (map (λ s. s.1) slots) n 0
    same n true is = sym (ap (λ k. get_or (map (λ s. s.1) slots) k 0) (eq_true n at is) ∙ got_at (λ s. s.1) slots at (None, 0) 0 h)
    same n false is = refl

pub grown : {N : Type 0} (slots : List (Option N × ℕ)) (x : N) → Adds (kinds_of slots) x (length slots) (kinds_of (slots ++ (Some x, 0) ∷ []))
grown {N} slots x = record {
  free = get_or_past (map (λ s. s.0) slots) (length slots) None (omega (arith, length-map slots (λ s. s.0)));
  nodes = λ n. ap (λ l. get_or l n None) (map-append (λ (s : Option N × ℕ). s.0) slots ((Some x, 0) ∷ []))
      ∙ push_read (map (λ s. s.0) slots) n (Some x) None
      ∙ ap (λ l. cond (n == l) (Some x) (get_or (map (λ s. s.0) slots) n None)) (length-map slots (λ s. s.0));
  counts = λ n. ap (λ l. get_or l n 0) (map-append (λ (s : Option N × ℕ). s.1) slots ((Some x, 0) ∷ [])) ∙ push_default (map (λ s. s.1) slots) n 0;
}

less_counts : (counts : List ℕ) (at fewer count : ℕ) → count ≡ get_or counts at 0 - fewer → (n : ℕ) → get_or (set counts at count) n 0 ≡ get_or counts n 0 - (if n == at then fewer else 0)
less_counts counts at fewer count is n = by (nat_lt at (length counts)) refl (n == at) refl
  where
    by : (w : Bool) → nat_lt at (length counts) ≡ w → (b : Bool) → (n == at) ≡ b → get_or (set counts at count) n 0 ≡ get_or counts n 0 - cond b fewer 0
    by true lt true same = set_read counts at n count 0 (ltb-true _ _ lt) ∙ ap (λ b. cond b count (get_or counts n 0)) same ∙ is ∙ ap (λ k. get_or counts k 0 - fewer) (sym (eq_true n at same))
    by true lt false same = set_read counts at n count 0 (ltb-true _ _ lt) ∙ ap (λ b. cond b count (get_or counts n 0)) same ∙ omega arith
    by false ge true same =
        let none : get_or counts n 0 ≡ 0 = ap (λ k. get_or counts k 0) (eq_true n at same) ∙ get_or_past counts at 0 (ltb-false _ _ ge) in
        set_none counts at n count 0 (ltb-false _ _ ge) ∙ omega arith
    by false ge false same = set_none counts at n count 0 (ltb-false _ _ ge) ∙ omega arith

pub freed : {N : Type 0} (slots : List (Option N)) (counts : List ℕ) (at fewer count : ℕ) → count ≡ get_or counts at 0 - fewer → get_or counts at 0 ≤ fewer
    → Releases (slots, counts) at fewer (set slots at None, set counts at count)
freed slots counts at fewer count is le = record { nodes = λ n lt. kept n lt; counts = less_counts counts at fewer count is }
  where
    kept : (n : ℕ) → 0 < get_or (set counts at count) n 0 → get_or (set slots at None) n None ≡ get_or slots n None
    kept n lt = get_or-set_other slots at n None None (λ same.
        let here : get_or (set counts at count) n 0 ≡ get_or counts at 0 - fewer = less_counts counts at fewer count is n
        ∙ ap (λ k. get_or counts k 0 - cond (k == at) fewer 0) same ∙ ap (λ b. get_or counts at 0 - cond b fewer 0) (eq_self at) in
        absurd (omega arith))

-- a slot that is free
pub freed_at : {N : Type 0} (slots : List (Option N × ℕ)) (at : ℕ) → kinds_of (set slots at (None, 0)) ≡ (set (kinds_of slots).0 at None, set (kinds_of slots).1 at 0)
freed_at {N} slots at = λ i. (map-set (λ (s : Option N × ℕ). s.0) slots at (None, 0) i, map-set (λ (s : Option N × ℕ). s.1) slots at (None, 0) i)

pub eq_swap : (n m : ℕ) → (n == m) ≡ (m == n)
eq_swap n m = by (n == m) refl (m == n) refl
  where
    by : (a : Bool) → (n == m) ≡ a → (b : Bool) → (m == n) ≡ b → a ≡ b
    by true h true k = refl
    by true h false k = absurd (eq_false m n k (sym (eq_true n m h)))
    by false h true k = absurd (eq_false n m h (sym (eq_true m n k)))
    by false h false k = refl
