-- Small facts of truth values, orders, options, results, sums and lists, which files of this crate and of the crates above name.
use Rattle.std.proofs.Common.{◌≡◌, ◌≢◌, ℕ, ◌+◌, ◌*◌, Bool, true, false, not, cond, T, ◌&&◌, ◌||◌, List, [], ◌∷◌, ◌++◌, length, map, filter, slice_get, Option}
use Rattle.std.proofs.Common.{Some, None, is_some, Result, Ok, Err, Ordering, Less, Equal, Greater, refl, sym, ap, ◌∙◌, arith, inl, inr, true≢false}
use Rattle.std.specs.Prelude.{◌⊎◌}
use Rattle.std.specs.List.{AllByRecursion, AllZip, list_any}
use Rattle.std.specs.Option.{option_or}
use Rattle.std.specs.Ordering.{is_eq, is_gt, is_lt}

-- ---- orders

pub is_equal : (o : Ordering) → is_eq o ≡ true → o ≡ Equal
is_equal Less h = cc
is_equal Equal h = refl
is_equal Greater h = cc

pub is_less : (o : Ordering) → is_lt o ≡ true → o ≡ Less
is_less Less h = refl
is_less Equal h = cc
is_less Greater h = cc

pub is_greater : (o : Ordering) → is_gt o ≡ true → o ≡ Greater
is_greater Less h = cc
is_greater Equal h = cc
is_greater Greater h = refl

pub not_gt : (o : Ordering) → o ≢ Greater → is_gt o ≡ false
not_gt Less h = refl
not_gt Equal h = refl
not_gt Greater h = absurd (h refl)

pub less_left : (o : Ordering) → o ≢ Greater → o ≢ Equal → o ≡ Less
less_left Less g e = refl
less_left Equal g e = absurd (e refl)
less_left Greater g e = absurd (g refl)

pub less_is_not_greater : Less ≡ Greater → ⊥
less_is_not_greater h = cc

pub equal_is_not_greater : Equal ≡ Greater → ⊥
equal_is_not_greater h = cc

-- ---- truth values

pub false_is_not_true : false ≡ true → ⊥
false_is_not_true h = cc

pub not_both : (b : Bool) → b ≡ true → b ≡ false → ⊥
not_both b h k = true≢false (sym h ∙ k)

pub false_from : (b : Bool) → (b ≡ true → ⊥) → b ≡ false
false_from true h = absurd (h refl)
false_from false h = refl

pub same_bools : (a b : Bool) → (a ≡ true → b ≡ true) → (b ≡ true → a ≡ true) → a ≡ b
same_bools true b to from = sym (to refl)
same_bools false true to from = from refl
same_bools false false to from = refl

pub to_T : (b : Bool) → b ≡ true → T b
to_T true h = tt
to_T false h = cc

pub from_T : (b : Bool) → T b → b ≡ true
from_T true h = refl
from_T false h = absurd h

pub or_false : (b : Bool) → (b || false) ≡ b
or_false true = refl
or_false false = refl

pub or_true : (b : Bool) → (b || true) ≡ true
or_true true = refl
or_true false = refl

pub or_first : (a b : Bool) → a ≡ true → (a || b) ≡ true
or_first a b h = cc

pub or_second : (a b : Bool) → b ≡ true → (a || b) ≡ true
or_second true b h = refl
or_second false b h = h

pub or_swapped : (a b c : Bool) → (a || (b || c)) ≡ (b || (a || c))
or_swapped true true c = refl
or_swapped true false c = refl
or_swapped false true c = refl
or_swapped false false c = refl

pub or_turned : (a b c : Bool) → (a || (b || c)) ≡ ((b || a) || c)
or_turned true true c = refl
or_turned true false c = refl
or_turned false true c = refl
or_turned false false c = refl

pub both_false : (a b : Bool) → (a || b) ≡ false → (a ≡ false) × (b ≡ false)
both_false true b h = cc
both_false false b h = (refl, h)

pub and_false : (b : Bool) → (b && false) ≡ false
and_false true = refl
and_false false = refl

pub and_true : (b : Bool) → (b && true) ≡ b
and_true true = refl
and_true false = refl

pub and_is_first : (a b : Bool) → b ≡ true → (a && b) ≡ a
and_is_first true b h = h
and_is_first false b h = refl

pub and_assoc : (a b c : Bool) → (a && (b && c)) ≡ ((a && b) && c)
and_assoc true b c = refl
and_assoc false b c = refl

pub both_true : (a b : Bool) → a ≡ true → b ≡ true → (a && b) ≡ true
both_true a b p q = cc

pub not_first : (a b : Bool) → (not a && b) ≡ true → a ≡ false
not_first true b h = sym h
not_first false b h = refl

pub and_second : (a b : Bool) → (not a && b) ≡ true → b ≡ true
and_second true b h = cc
and_second false b h = h

-- ---- options and results

pub none_is_not_some : {A : Type 0} (a : A) → None ≡ Some a → ⊥
none_is_not_some a h = cc

pub some_is_not_none : {A : Type 0} (o : Option A) (a : A) → o ≡ Some a → o ≡ None → ⊥
some_is_not_none o a h k = cc

pub some_eq : {A : Type 0} (a b : A) → Some a ≡ Some b → a ≡ b
some_eq a b h = cc

pub some_same : {A : Type 0} {a b : A} → Some a ≡ Some b → a ≡ b
some_same h = cc

pub is_none : {A : Type 0} (o : Option A) → is_some o ≡ false → o ≡ None
is_none None h = refl
is_none (Some a) h = absurd (true≢false h)

pub or_none : {A : Type 0} (o : Option A) → option_or o None ≡ o
or_none None = refl
or_none (Some a) = refl

pub err_is_not_ok : {A B : Type 0} (a : A) (b : B) → Err b ≡ Ok a → ⊥
err_is_not_ok a b h = cc

pub ok_is_not_err : {A B : Type 0} (a : A) (b : B) → Ok a ≡ Err b → ⊥
ok_is_not_err a b h = cc

pub ok_or_err : {A B : Type 0} (r : Result A B) (a : A) (b : B) → r ≡ Ok a → r ≡ Err b → ⊥
ok_or_err r a b h k = cc

pub cases_Result : {A E : Type 0} (r : Result A E) → ((x : A) × (r ≡ Ok x)) ⊎ ((e : E) × (r ≡ Err e))
cases_Result (Ok x) = inl (x, refl)
cases_Result (Err e) = inr (e, refl)

-- ---- sums

pub none_times : (n : ℕ) → 0 * n ≡ 0
none_times n = grind arith

pub times_none : (n : ℕ) → n * 0 ≡ 0
times_none n = grind arith

pub times_one : (n : ℕ) → n * 1 ≡ n
times_one n = grind arith

pub sum_times : (a b u : ℕ) → (a + b) * u ≡ a * u + b * u
sum_times a b u = grind arith

-- ---- lists

pub all_end : {A : Type 0} (P : A → Type 0) (xs : List A) (x : A) → AllByRecursion P xs → P x → AllByRecursion P (xs ++ x ∷ [])
all_end P [] x h p = (p, tt)
all_end P (y ∷ xs) x h p = (h.0, all_end P xs x h.1 p)

pub all-append : (P : ℕ → Type 0) (xs ys : List ℕ) → AllByRecursion P xs → AllByRecursion P ys → AllByRecursion P (xs ++ ys)
all-append P [] ys hx hy = hy
all-append P (x ∷ xs) ys hx hy = (hx.0, all-append P xs ys hx.1 hy)

pub all_filter : {A : Type 0} (P : A → Type 0) (test : A → Bool) (xs : List A) → AllByRecursion P xs → AllByRecursion P (filter test xs)
all_filter P test [] h = tt
all_filter P test (x ∷ xs) h = elim (test x) as (λ b. AllByRecursion P (cond b (x ∷ filter test xs) (filter test xs))) [
  | true ↦ (h.0, all_filter P test xs h.1)
  | false ↦ all_filter P test xs h.1
]

pub any-map : {A B : Type 0} (p : B → Bool) (f : A → B) (xs : List A) → list_any p (map f xs) ≡ list_any (λ x. p (f x)) xs
any-map p f [] = refl
any-map p f (x ∷ xs) = ap (λ b. p (f x) || b) (any-map p f xs)

-- values that are the same, place by place
pub same_values : {A B : Type 0} (f : A → B) (xs ys : List A) → AllZip (λ x y. f y ≡ f x) xs ys → map f ys ≡ map f xs
same_values f [] [] h = refl
same_values f [] (y ∷ ys) h = absurd h
same_values f (x ∷ xs) [] h = absurd h
same_values f (x ∷ xs) (y ∷ ys) h = λ i. h.0 i ∷ same_values f xs ys h.1 i

pub slice_get-last : {A : Type 0} (xs : List A) (x : A) → slice_get (xs ++ x ∷ []) (length xs) ≡ Some x
slice_get-last [] x = refl
slice_get-last (y ∷ ys) x = slice_get-last ys x
