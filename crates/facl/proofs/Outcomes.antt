-- Results: what is read next, and which value or fault a result has.
use Rattle.std.proofs.Common.{◌≡◌, Option, Some, None, Result, Ok, Err, refl, sym, ap}
use Rattle.std.specs.Prelude.{IsErr, ok_or}
use Rattle.acl_names.proofs.Basics.{ok_is_not_err}
use Rattle.acl_text.specs.Results.{◌>>=◌}

pub ok_eq : {A E : Type 0} (r : Result A E) (a b : A) → r ≡ Ok a → r ≡ Ok b → a ≡ b
ok_eq r a b h k = cc

pub err_eq : {A E : Type 0} (r : Result A E) (f g : E) → r ≡ Err f → r ≡ Err g → f ≡ g
err_eq r f g h k = cc

-- of one thing there is not both something and nothing
pub no_value : {A B : Type 0} (t : A → Option B) (a a' : A) (b : B) → Some a ≡ Some a' → t a ≡ Some b → t a' ≡ None → ⊥
no_value t a a' b h s n = cc

-- what was there
pub was_there : {A E : Type 0} (f : E) (o : Option A) (a : A) → ok_or o f ≡ Ok a → o ≡ Some a
was_there f None a h = absurd (ok_is_not_err a f (sym h))
was_there f (Some b) a h = ap (λ b. Some b) (ok_eq (ok_or (Some b) f) b a refl h)

pub is_err : {A E : Type 0} (r : Result A E) (f : E) → r ≡ Err f → IsErr r
is_err (Ok a) f h = absurd (ok_is_not_err a f h)
is_err (Err g) f h = refl

-- what fails after a thing was read, where the next step cannot
pub err_before : {A B E : Type 0} (k : A → B) (r : Result A E) (f : E) → (r >>= λ a. Ok (k a)) ≡ Err f → r ≡ Err f
err_before k (Ok a) f h = absurd (ok_is_not_err (k a) f h)
err_before k (Err g) f h = ap (λ e. Err e) (err_eq (Err g >>= λ a. Ok (k a)) g f refl h)

-- steps one after another
pub after_after : {A B C E : Type 0} (r : Result A E) (k : A → Result B E) (l : B → Result C E) → (r >>= λ a. k a >>= l) ≡ ((r >>= k) >>= l)
after_after (Ok a) k l = refl
after_after (Err f) k l = refl

-- the same of two things that are read first
pub after_both : {A B C D E : Type 0} (r : Result A E) (u : Result B E) (k : A → B → Result C E) (l : C → Result D E)
    → (r >>= λ a. u >>= λ b. k a b >>= l) ≡ ((r >>= λ a. u >>= k a) >>= l)
after_both (Ok a) (Ok b) k l = refl
after_both (Ok a) (Err f) k l = refl
after_both (Err f) u k l = refl

pub same_two : {A B C : Type 0} (k : A → B → C) (a a' : A) (b b' : B) → a ≡ a' → b ≡ b' → k a b ≡ k a' b'
same_two k a a' b b' h g = cc

pub same_three : {A B C D : Type 0} (k : A → B → C → D) (a a' : A) (b b' : B) (c c' : C) → a ≡ a' → b ≡ b' → c ≡ c' → k a b c ≡ k a' b' c'
same_three k a a' b b' c c' h g i = cc

pub same_found : {A B C : Type 0} (k : A → B → Option C) (a a' : A) (b b' : B) (c c' : C) → a ≡ a' → b ≡ b' → k a b ≡ Some c → k a' b' ≡ Some c' → c ≡ c'
same_found k a a' b b' c c' h g i j = cc
