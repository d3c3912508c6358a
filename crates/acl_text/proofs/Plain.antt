-- Bytes that mean themselves within a field, and the pieces and fields that they make.
use Rattle.std.proofs.Common.{◌≡◌, ℕ, ◌≤◌, Bool, true, false, List, [], ◌∷◌, ◌++◌, length, refl, ap, ◌∙◌, arith}
use Rattle.std.specs.Prelude.{◌==◌, ◌||◌, not, reverse}
use Rattle.std.specs.List.{position_or_len, before_first, list_all, AllByRecursion}
use Rattle.std.proofs.lemmas.Bool.{and_parts, and_from, or_parts, not-true, eq-eqb, ne_eqb}
use Rattle.std.proofs.lemmas.List.{take_all, reverse-append, reverse-reverse}
use Rattle.std.proofs.lemmas.List.Elements.{All-from_recursion}
use Rattle.std.proofs.lemmas.List.Splits.{slice_split_at, slice_split_none}
use Rattle.acl_names.specs.Pieces.{pieces}
use Rattle.acl_names.proofs.Basics.{all-append}
use Rattle.acl_text.specs.Blanks.{is_blank, trim_front, trim_back, trimmed}
use Rattle.acl_text.specs.Fields.{entry_fields}

-- white space, colon, comma and #
abbrev pub is_mark : ℕ → Bool
is_mark b = (b == 32) || ((b == 9) || ((b == 58) || ((b == 44) || (b == 35))))

abbrev pub is_plain : ℕ → Bool
is_plain b = not ((b == 10) || is_mark b)

pub plain_from : (b : ℕ) → (b == 10) ≡ false → is_mark b ≡ false → is_plain b ≡ true
plain_from b line mark = rw (line, mark) refl

pub plain-line : (b : ℕ) → is_plain b ≡ true → (b == 10) ≡ false
plain-line b h = (or_parts (b == 10) (is_mark b) (not-true _ h)).0

plain-mark : (b : ℕ) → is_plain b ≡ true → is_mark b ≡ false
plain-mark b h = (or_parts (b == 10) (is_mark b) (not-true _ h)).1

mark-space : (b : ℕ) → is_mark b ≡ false → ((b == 32) ≡ false) × (((b == 9) || ((b == 58) || ((b == 44) || (b == 35)))) ≡ false)
mark-space b h = or_parts (b == 32) ((b == 9) || ((b == 58) || ((b == 44) || (b == 35)))) h

mark-tab : (b : ℕ) → is_mark b ≡ false → ((b == 9) ≡ false) × (((b == 58) || ((b == 44) || (b == 35))) ≡ false)
mark-tab b h = or_parts (b == 9) ((b == 58) || ((b == 44) || (b == 35))) (mark-space b h).1

mark-colon : (b : ℕ) → is_mark b ≡ false → ((b == 58) ≡ false) × (((b == 44) || (b == 35)) ≡ false)
mark-colon b h = or_parts (b == 58) ((b == 44) || (b == 35)) (mark-tab b h).1

mark-comma : (b : ℕ) → is_mark b ≡ false → ((b == 44) ≡ false) × ((b == 35) ≡ false)
mark-comma b h = or_parts (b == 44) (b == 35) (mark-colon b h).1

pub plain-blank : (b : ℕ) → is_plain b ≡ true → is_blank b ≡ false
plain-blank b h = rw ((mark-space b (plain-mark b h)).0, (mark-tab b (plain-mark b h)).0) refl

pub plain-colon : (b : ℕ) → is_plain b ≡ true → (b == 58) ≡ false
plain-colon b h = (mark-colon b (plain-mark b h)).0

pub plain-comma : (b : ℕ) → is_plain b ≡ true → (b == 44) ≡ false
plain-comma b h = (mark-comma b (plain-mark b h)).0

pub plain-hash : (b : ℕ) → is_plain b ≡ true → (b == 35) ≡ false
plain-hash b h = (mark-comma b (plain-mark b h)).1

-- a digit is plain
pub digit-plain : (b : ℕ) → 48 ≤ b → b ≤ 57 → is_plain b ≡ true
digit-plain b low high =
    plain_from b (ne_eqb b 10 (λ e. omega arith))
    (rw (ne_eqb b 32 (λ e. omega arith), ne_eqb b 9 (λ e. omega arith), ne_eqb b 58 (λ e. omega arith), ne_eqb b 44 (λ e. omega arith), ne_eqb b 35 (λ e. omega arith)) refl)

-- ---- tests of each byte

-- a test that fails at each byte that passes another
pub none_of : (p q : ℕ → Bool) → ((b : ℕ) → p b ≡ true → q b ≡ false) → (xs : List ℕ) → list_all p xs ≡ true → AllByRecursion (λ b. q b ≡ false) xs
none_of p q why [] h = tt
none_of p q why (b ∷ bs) h = let parts = and_parts (p b) (list_all p bs) h in (why b parts.0, none_of p q why bs parts.1)

pub list_all-append : (p : ℕ → Bool) (xs ys : List ℕ) → list_all p xs ≡ true → list_all p ys ≡ true → list_all p (xs ++ ys) ≡ true
list_all-append p [] ys hx hy = hy
list_all-append p (x ∷ xs) ys hx hy = let parts = and_parts (p x) (list_all p xs) hx in and_from (p x) (list_all p (xs ++ ys)) parts.0 (list_all-append p xs ys parts.1 hy)

pub all-reverse : (P : ℕ → Type 0) (xs : List ℕ) → AllByRecursion P xs → AllByRecursion P (reverse xs)
all-reverse P [] h = tt
all-reverse P (x ∷ xs) h = rw (reverse-append (x ∷ []) xs) (all-append P (reverse xs) (x ∷ []) (all-reverse P xs h.1) (h.0, tt))

-- ---- trimming

trim_front_none : (xs : List ℕ) → AllByRecursion (λ b. is_blank b ≡ false) xs → trim_front xs ≡ xs
trim_front_none [] h = refl
trim_front_none (b ∷ bs) h = rw h.0 refl

pub trimmed_none : (xs : List ℕ) → AllByRecursion (λ b. is_blank b ≡ false) xs → trimmed xs ≡ xs
trimmed_none xs h = ap trim_back (trim_front_none xs h) ∙ (ap reverse (trim_front_none (reverse xs) (all-reverse (λ b. is_blank b ≡ false) xs h)) ∙ reverse-reverse xs)

pub trimmed_plain : (xs : List ℕ) → list_all is_plain xs ≡ true → trimmed xs ≡ xs
trimmed_plain xs h = trimmed_none xs (none_of is_plain is_blank plain-blank xs h)

-- ---- cuts

pub pieces_at : (c : ℕ) (xs ys : List ℕ) → AllByRecursion (λ b. (b == c) ≡ false) xs → pieces c (xs ++ c ∷ ys) ≡ xs ∷ pieces c ys
pieces_at c xs ys none = slice_split_at (λ b. b == c) xs c ys (All-from_recursion (λ b. (b == c) ≡ false) xs none) (eq-eqb c c refl)

pub pieces_none : (c : ℕ) (xs : List ℕ) → AllByRecursion (λ b. (b == c) ≡ false) xs → pieces c xs ≡ xs ∷ []
pieces_none c xs none = slice_split_none (λ b. b == c) xs (All-from_recursion (λ b. (b == c) ≡ false) xs none)

whole : (p : ℕ → Bool) (xs : List ℕ) → AllByRecursion (λ b. p b ≡ false) xs → length xs ≤ position_or_len p xs
whole p [] none = omega arith
whole p (x ∷ xs) none = rw none.0 (omega (arith, whole p xs none.1))

pub before_first_none : (p : ℕ → Bool) (xs : List ℕ) → AllByRecursion (λ b. p b ≡ false) xs → before_first p xs ≡ xs
before_first_none p xs none = take_all (position_or_len p xs) xs (whole p xs none)

-- three plain fields are read again
pub fields_again : (w v p : List ℕ) → list_all is_plain w ≡ true → list_all is_plain v ≡ true → list_all is_plain p ≡ true → entry_fields (w ++ 58 ∷ (v ++ 58 ∷ p)) ≡ w ∷ v ∷ p ∷ []
fields_again w v p hw hv hp =
    let cuts : pieces 58 (w ++ 58 ∷ (v ++ 58 ∷ p)) ≡ w ∷ v ∷ p ∷ [] =
    pieces_at 58 w (v ++ 58 ∷ p) (none_of is_plain (λ b. b == 58) plain-colon w hw)
    ∙ ap (λ (ps : List (List ℕ)). w ∷ ps)
    (pieces_at 58 v p (none_of is_plain (λ b. b == 58) plain-colon v hv) ∙ ap (λ (ps : List (List ℕ)). v ∷ ps) (pieces_none 58 p (none_of is_plain (λ b. b == 58) plain-colon p hp))) in
    rw (cuts, trimmed_plain w hw, trimmed_plain v hv, trimmed_plain p hp) refl
