-- Lines and entries with too many fields.
use Rattle.std.proofs.Common.{◌≡◌, ℕ, ◌<◌, ◌≤◌, List, [], ◌∷◌, length, None, refl, arith, true}
use Rattle.std.specs.Prelude.{◌==◌}
use Rattle.std.proofs.lemmas.List.{length-map}
use Rattle.std.proofs.lemmas.List.Splits.{length-slice_split}
use Rattle.acl_names.specs.Pieces.{pieces}
use Rattle.acl_text.specs.Rows.{passwd_row, group_row}
use Rattle.acl_text.specs.Blanks.{trimmed}
use Rattle.acl_text.specs.Fields.{row_of, is_default_word, default_of, entry_fields}

pub pieces-nonempty : (separator : ℕ) (bytes : List ℕ) → 0 < length (pieces separator bytes)
pieces-nonempty separator bytes = omega (arith, length-slice_split (λ b. b == separator) bytes)

pub eight_fields : (a b c d e f g : List ℕ) (more : List (List ℕ)) → 0 < length more → None ≡ passwd_row (a ∷ b ∷ c ∷ d ∷ e ∷ f ∷ g ∷ more)
eight_fields a b c d e f g [] nonempty = absurd (omega arith)
eight_fields a b c d e f g (h ∷ hs) nonempty = refl

pub five_fields : (a b c d : List ℕ) (more : List (List ℕ)) → 0 < length more → None ≡ group_row (a ∷ b ∷ c ∷ d ∷ more)
five_fields a b c d [] nonempty = absurd (omega arith)
five_fields a b c d (e ∷ es) nonempty = refl

-- a row has seven fields
pub few_fields : (row : List (List ℕ)) → length row ≤ 6 → None ≡ passwd_row row
few_fields [] few = refl
few_fields (a ∷ []) few = refl
few_fields (a ∷ b ∷ []) few = refl
few_fields (a ∷ b ∷ c ∷ []) few = refl
few_fields (a ∷ b ∷ c ∷ d ∷ []) few = refl
few_fields (a ∷ b ∷ c ∷ d ∷ e ∷ []) few = refl
few_fields (a ∷ b ∷ c ∷ d ∷ e ∷ f ∷ []) few = refl
few_fields (a ∷ b ∷ c ∷ d ∷ e ∷ f ∷ g ∷ more) few = absurd (omega arith)

pub four_fields : (a b c : List ℕ) (more : List (List ℕ)) → 0 < length more → None ≡ row_of (a ∷ b ∷ c ∷ more)
four_fields a b c [] nonempty = absurd (omega arith)
four_fields a b c (d ∷ ds) nonempty = refl

pub default_taken : (first : List ℕ) (more : List (List ℕ)) → 0 < length more → is_default_word first ≡ true → default_of (first ∷ more) ≡ (true, more)
default_taken first [] nonempty is = absurd (omega arith)
default_taken first (second ∷ more) nonempty is = rw is refl

pub fields-nonempty : (bytes : List ℕ) → 0 < length (entry_fields bytes)
fields-nonempty bytes = omega (arith, length-map (pieces 58 bytes) trimmed, pieces-nonempty 58 bytes)
