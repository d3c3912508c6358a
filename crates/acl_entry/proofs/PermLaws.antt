-- Permission sets against the bits of their numbers.
use Rattle.std.proofs.Common.{◌≡◌, ℕ, ◌<◌, ◌&&◌, ◌||◌, eqb, Bool, max, min, bit_and, sym, ap, ◌∙◌, arith}
use Rattle.std.specs.Int.RustNames.{bit_or}
use Rattle.std.proofs.lemmas.Nat.{and_le_l}
use Rattle.std.proofs.lemmas.Nat.Bits.{bit_at_and, bit_at_or, bit_at-lt}
use Rattle.std.proofs.lemmas.Bool.Decides.{nat_tests}
use Rattle.std.specs.Int.{bit_at}
use Rattle.acl_entry.specs.Perms.{Perms, number, numbered, contains, union, meet, number-numbered}

max_is : (a b : ℕ) → a < 2 → b < 2 → eqb (max a b) 1 ≡ (eqb a 1 || eqb b 1)
max_is a b p q = grind (arith, nat_tests)

min_is : (a b : ℕ) → a < 2 → b < 2 → eqb (min a b) 1 ≡ (eqb a 1 && eqb b 1)
min_is a b p q = grind (arith, nat_tests)

bit_or_is : (a b i : ℕ) → eqb (bit_at (bit_or a b) i) 1 ≡ (eqb (bit_at a i) 1 || eqb (bit_at b i) 1)
bit_or_is a b i = ap (λ n. eqb n 1) (bit_at_or a b i) ∙ max_is _ _ (bit_at-lt a i) (bit_at-lt b i)

bit_and_is : (a b i : ℕ) → eqb (bit_at (bit_and a b) i) 1 ≡ (eqb (bit_at a i) 1 && eqb (bit_at b i) 1)
bit_and_is a b i = ap (λ n. eqb n 1) (bit_at_and a b i) ∙ min_is _ _ (bit_at-lt a i) (bit_at-lt b i)

pub same_perms : (s t : Perms) → s.read ≡ t.read → s.write ≡ t.write → s.execute ≡ t.execute → s ≡ t
same_perms s t r w x = λ i. record { read = r i; write = w i; execute = x i }

-- `|` joins the sets
pub numbered-or : (a b : ℕ) → numbered (bit_or a b) ≡ union (numbered a) (numbered b)
numbered-or a b = same_perms _ _ (bit_or_is a b 2) (bit_or_is a b 1) (bit_or_is a b 0)

-- `&` leaves those of both
pub numbered-and : (a b : ℕ) → numbered (bit_and a b) ≡ meet (numbered a) (numbered b)
numbered-and a b = same_perms _ _ (bit_and_is a b 2) (bit_and_is a b 1) (bit_and_is a b 0)

-- the test that the code makes
contains_bools : (a b c d e f : Bool) → contains (record { read = a; write = b; execute = c }) (record { read = d; write = e; execute = f })
    ≡ eqb (number (meet (record { read = a; write = b; execute = c }) (record { read = d; write = e; execute = f }))) (number (record { read = d; write = e; execute = f }))
contains_bools a b c d e f = grind (arith, nat_tests)

pub contains-and : (a b : ℕ) → a < 8 → b < 8 → contains (numbered a) (numbered b) ≡ eqb (bit_and a b) b
contains-and a b p q =
    (let s = numbered a in let t = numbered b in contains_bools s.read s.write s.execute t.read t.write t.execute)
    ∙ ap (λ s. eqb (number s) (number (numbered b))) (sym (numbered-and a b))
    ∙ ap (λ n. eqb n (number (numbered b))) (number-numbered (bit_and a b) (omega (arith, and_le_l a b)))
    ∙ ap (eqb (bit_and a b)) (number-numbered b q)
