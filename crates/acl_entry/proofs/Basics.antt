-- Small facts of truth values, orders and results, which files of this crate and of the crates above name.
use Rattle.std.proofs.Common.{◌≡◌, Bool, true, false, T, ◌&&◌, ◌||◌, Ok, Err, Ordering, Less, Equal, Greater, refl}
use Rattle.std.specs.Ordering.{is_eq, is_lt}

pub is_equal : (o : Ordering) → is_eq o ≡ true → o ≡ Equal
is_equal Less h = cc
is_equal Equal h = refl
is_equal Greater h = cc

pub is_less : (o : Ordering) → is_lt o ≡ true → o ≡ Less
is_less Less h = refl
is_less Equal h = cc
is_less Greater h = cc

pub from_T : (b : Bool) → T b → b ≡ true
from_T true h = refl
from_T false h = absurd h

pub both_true : (a b : Bool) → a ≡ true → b ≡ true → (a && b) ≡ true
both_true a b p q = cc

pub or_true : (b : Bool) → (b || true) ≡ true
or_true true = refl
or_true false = refl

pub first_false : (a b : Bool) → (a || b) ≡ false → a ≡ false
first_false true b h = cc
first_false false b h = refl

pub second_false : (a b : Bool) → (a || b) ≡ false → b ≡ false
second_false true b h = cc
second_false false b h = h

pub and_false : (b : Bool) → (b && false) ≡ false
and_false true = refl
and_false false = refl

pub err_is_not_ok : {A B : Type 0} (a : A) (b : B) → Err b ≡ Ok a → ⊥
err_is_not_ok a b h = cc
