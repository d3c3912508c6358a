-- A mode of up to four octal digits fits.
use Rattle.std.proofs.Common.{◌≡◌, ◌<◌, ◌≤◌, ℕ, ◌/◌, Bool, ◌&&◌, List, [], ◌∷◌, length, nat_le, nat_lt, IsTrue, true, false, refl, rules, arith}
use Rattle.std.proofs.lemmas.Bool.{and_parts}
use Rattle.std.specs.List.{list_all, slice_index_or}
use Rattle.facl_tools.specs.Modes.{is_mode}
use Rattle.acl_names.specs.Names.{is_octal}

-- a number below this stays below 4096 when these digits are written after it
abbrev pub room : List ℕ → ℕ
room [] = 4096
room (b ∷ bs) = room bs / 8

pub room_at_most : (t : List ℕ) → room t ≤ 4096
room_at_most [] = omega arith
room_at_most (b ∷ bs) = let h = room_at_most bs in omega (arith, h)

pub room_of_four : (t : List ℕ) → length t ≤ 4 → 0 < room t
room_of_four [] h = omega arith
room_of_four (a ∷ []) h = omega arith
room_of_four (a ∷ b ∷ []) h = omega arith
room_of_four (a ∷ b ∷ c ∷ []) h = omega arith
room_of_four (a ∷ b ∷ c ∷ d ∷ []) h = omega arith
room_of_four (a ∷ b ∷ c ∷ d ∷ e ∷ t) h = absurd (omega (arith, h))

pub room_of_one : (t : List ℕ) → 1 ≤ length t → room t ≤ 512
room_of_one [] h = absurd (omega (arith, h))
room_of_one (b ∷ bs) h = let most = room_at_most bs in omega (arith, most)

parts : (a b c : Bool) → IsTrue (a && b && c) → (b ≡ true) × (c ≡ true)
parts true true true h = (refl, refl)
parts true true false h = absurd (search rules)
parts true false c h = absurd (search rules)
parts false b c h = absurd (search rules)

pub mode_digits : (t : List ℕ) → IsTrue (is_mode t) → list_all (is_octal 7) t ≡ true
mode_digits t h = (parts (nat_lt 0 (length t)) (nat_le (length t) 4) (list_all (is_octal 7) t) h).1

pub mode_short : (t : List ℕ) → IsTrue (is_mode t) → length t ≤ 4
mode_short t h = let e = (parts (nat_lt 0 (length t)) (nat_le (length t) 4) (list_all (is_octal 7) t) h).0 in grind (arith, e)

pub first_digit : (t : List ℕ) → 1 ≤ length t → list_all (is_octal 7) t ≡ true → slice_index_or t 0 0 ≤ 55
first_digit [] h e = absurd (omega (arith, h))
first_digit (b ∷ bs) h e =
    let digit = (and_parts (is_octal 7 b) (list_all (is_octal 7) bs) e).0 in
    let upper = (and_parts (nat_le 48 b) (nat_le b 55) digit).1 in
    grind (arith, upper)
