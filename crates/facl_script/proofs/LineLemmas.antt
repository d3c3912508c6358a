-- Lemmas on the lines of a script.
use Rattle.std.proofs.Common.{◌≡◌, ◌<◌, ◌+◌, ℕ, suc, Bool, true, false, List, [], ◌∷◌, ◌++◌, Option, Some, None, refl, sym, ap, ◌∙◌, length, take, drop, get_or, slice_index, eqb}
use Rattle.std.proofs.Common.{arith, add-one, drop-cons, get_or-take, take-append-drop, length-take-le}
use Rattle.std.proofs.lemmas.Bool.{eqb-true}
use Rattle.std.specs.Prelude.{MatchOption}
use Rattle.memchr.specs.Find.{IsFirstByte, is_byte}
use Rattle.facl_script.specs.Lines.{lines_of, HasNoLineFeed}

pub HasNoLineFeed-append : (a b : List ℕ) → HasNoLineFeed a → HasNoLineFeed b → HasNoLineFeed (a ++ b)
HasNoLineFeed-append [] b p q = q
HasNoLineFeed-append (x ∷ a) b p q = (p.0, HasNoLineFeed-append a b p.1 q)

-- the first line of a script is the text before its first LF
pub lines_of-ended : (text rest : List ℕ) → HasNoLineFeed text → lines_of (text ++ 10 ∷ rest) ≡ record { bytes = text; ended = true } ∷ lines_of rest
lines_of-ended [] rest h = refl
lines_of-ended (b ∷ text) rest h = rw (h.0, lines_of-ended text rest h.1) refl

-- what has no LF is one line, or none where it is empty
pub lines_of-rest : (text : List ℕ) → HasNoLineFeed text → 0 < length text → lines_of text ≡ record { bytes = text; ended = false } ∷ []
lines_of-rest [] h p = absurd (omega (arith, p))
lines_of-rest (b ∷ []) h p = rw (h.0) refl
lines_of-rest (b ∷ c ∷ text) h p = rw (h.0, lines_of-rest (c ∷ text) h.1 (omega arith)) refl

pub not_true : (is : Bool) → (is ≡ true → ⊥) → is ≡ false
not_true true never = absurd (never refl)
not_true false never = refl

-- where each byte is another one, none is an LF
all_other : (bytes : List ℕ) → ((k : ℕ) → k < length bytes → eqb (slice_index bytes k) 10 ≡ true → ⊥) → HasNoLineFeed bytes
all_other [] other = tt
all_other (b ∷ bytes) other = (not_true (eqb b 10) (other 0 (omega arith)), all_other bytes (λ k lt is. other (suc k) (omega (arith, lt)) is))

-- a search for the byte of an LF finds the first one
pub first_line_feed : (bytes : List ℕ) (found : Option ℕ) → IsFirstByte (is_byte 10) bytes found
    → MatchOption found (HasNoLineFeed bytes) (λ n. (n < length bytes) × HasNoLineFeed (take n bytes) × (bytes ≡ take n bytes ++ (10 ∷ drop (n + 1) bytes)))
first_line_feed bytes None none = all_other bytes (λ k lt is. none k (omega arith) lt is)
first_line_feed bytes (Some n) first =
    let lt : n < length bytes = first.0.high in
    let long : length (take n bytes) ≡ n = length-take-le n bytes (omega (arith, lt)) in
    let before : HasNoLineFeed (take n bytes) =
    all_other (take n bytes) (λ k short is.
    let less : k < n = omega (arith, short, long) in
    first.0.before k (omega arith) less (ap (λ b. eqb b 10) (sym (get_or-take n bytes k 0 less)) ∙ is)) in
    let feed : get_or bytes n 0 ≡ 10 = eqb-true (get_or bytes n 0) 10 first.1 in
    (lt, before, sym (take-append-drop n bytes) ∙ ap (λ rest. take n bytes ++ rest) (drop-cons bytes n 0 lt ∙ (λ i. feed i ∷ drop (sym (add-one n) i) bytes)))
