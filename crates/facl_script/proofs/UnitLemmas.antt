-- Lemmas on the units of a script.
use Rattle.std.proofs.Common.{◌≡◌, ◌<◌, ◌≤◌, ◌+◌, ℕ, Bool, true, false, ◌&&◌, cond, List, [], ◌∷◌, ◌++◌, refl, sym, ap, ◌∙◌, append_assoc, append-nil, length}
use Rattle.std.proofs.Common.{arith, None, Some, if◌then◌else◌, true≢false}
use Rattle.std.specs.Prelude.{nat_le}
use Rattle.std.proofs.lemmas.Bool.{le-leb, leb-true}
use Rattle.std.proofs.lemmas.Bool.Decides.{nat_tests}
use Rattle.facl_script.specs.Lines.{lines_of, HasNoLineFeed, spelled, Held}
use Rattle.facl_script.specs.Units.{ScriptUnit, takes_text, within, outside, none, unended, cut, within_limit, opened, closed, HasNoUnit, full_units, line_takes}
use Rattle.facl_script.proofs.LineLemmas.{lines_of-ended, lines_of-rest}

-- a unit that is a line alone
abbrev pub alone : ℕ → List ℕ → Bool → ScriptUnit
alone n line full = record { number = n; line = within_limit line; text = none; is_full = full }

-- the next line takes no text
pub unit_alone : (asks : List ℕ → Bool) (n : ℕ) (ended : Bool) (line rest : List ℕ) → HasNoLineFeed line → takes_text asks line ≡ false → (ended ≡ false → (0 < length line) × (rest ≡ []))
    → cut asks outside n (lines_of (spelled line ended ++ rest)) ≡ alone n line ended ∷ cut asks outside (n + 1) (lines_of rest)
unit_alone asks n true line rest feed takes last =
    ap (λ l. cut asks outside n (lines_of l)) (append_assoc line (10 ∷ []) rest) ∙ ap (cut asks outside n) (lines_of-ended line rest feed) ∙ rw takes refl
unit_alone asks n false line rest feed takes last =
    rw ((last refl).1, append-nil line, lines_of-rest line feed (last refl).0, takes) refl

-- the last line takes a text, and there is none
pub unit_breaks : (asks : List ℕ → Bool) (n : ℕ) (line rest : List ℕ) → HasNoLineFeed line → takes_text asks line ≡ true → 0 < length line → rest ≡ []
    → cut asks outside n (lines_of (line ++ rest)) ≡ closed (opened n line) unended false ∷ cut asks outside (n + 1) (lines_of rest)
unit_breaks asks n line rest feed takes some last = rw (last, append-nil line, lines_of-rest line feed some, takes) refl

-- the next line takes a text
pub unit_opens : (asks : List ℕ → Bool) (n : ℕ) (line rest : List ℕ) → HasNoLineFeed line → takes_text asks line ≡ true
    → cut asks outside n (lines_of ((line ++ 10 ∷ []) ++ rest)) ≡ cut asks (within (opened n line)) (n + 1) (lines_of rest)
unit_opens asks n line rest feed takes =
    ap (λ l. cut asks outside n (lines_of l)) (append_assoc line (10 ∷ []) rest) ∙ ap (cut asks outside n) (lines_of-ended line rest feed) ∙ rw takes refl

-- what has no LF makes no full unit
pub no_unit_outside : (asks : List ℕ → Bool) (tail : List ℕ) → HasNoLineFeed tail → HasNoUnit asks tail
no_unit_outside asks [] h n = refl
no_unit_outside asks (b ∷ tail) h n = ap (λ ls. full_units (cut asks outside n ls)) (lines_of-rest (b ∷ tail) h (omega arith)) ∙ cases (takes_text asks (b ∷ tail))
  where
    cases : (t : Bool) → full_units (cond t (closed (opened n (b ∷ tail)) unended false ∷ []) (alone n (b ∷ tail) false ∷ [])) ≡ []
    cases true = refl
    cases false = refl

pub within_limit_short : (line : List ℕ) → length line ≤ 65536 → within_limit line ≡ Some line
within_limit_short line h = rw (le-leb (length line) 65536 h) refl

lt_leb : (n : ℕ) → 65536 < n → nat_le n 65536 ≡ false
lt_leb n h = grind (arith, nat_tests)

-- a line over the limit is none of a unit's
pub over_limit : (held line : List ℕ) → Held true held line → within_limit line ≡ None
over_limit held line h = rw (lt_leb (length line) h) refl

-- the line that is held is the unit's
pub line_held : (held line : List ℕ) → Held false held line → within_limit line ≡ Some held
line_held held line h = rw h.0 (within_limit_short line h.1)

-- a line that is within the limit takes a text where it asks for one
pub takes_within : (asks : List ℕ → Bool) (line : List ℕ) → line_takes asks (within_limit line) ≡ takes_text asks line
takes_within asks line = by (nat_le (length line) 65536)
  where
    by : (b : Bool) → line_takes asks (if b then Some line else None) ≡ (b && asks line)
    by true = refl
    by false = refl

left_true : (a b : Bool) → (a && b) ≡ true → a ≡ true
left_true true b h = refl
left_true false b h = absurd (true≢false (sym h))

takes_text_short : (asks : List ℕ → Bool) (line : List ℕ) → takes_text asks line ≡ true → length line ≤ 65536
takes_text_short asks line h = leb-true (length line) 65536 (left_true (nat_le (length line) 65536) (asks line) h)

-- a line that takes a text is within the limit
pub takes_some : (asks : List ℕ → Bool) (line : List ℕ) → takes_text asks line ≡ true → within_limit line ≡ Some line
takes_some asks line h = within_limit_short line (takes_text_short asks line h)
