-- What is cut out of bytes is made of bytes.
use Rattle.std.proofs.Common.{◌≡◌, ℕ, Bool, true, false, cond, List, [], ◌∷◌, eqb, refl}
use Rattle.std.specs.List.{list_all, onto_first}
use Rattle.std.proofs.lemmas.Bool.{and_parts, and_from}
use Rattle.acl_names.specs.Pieces.{pieces, is_byte}

-- each piece is made of bytes
abbrev pub are_texts : List (List ℕ) → Bool
are_texts ps = list_all (list_all is_byte) ps

onto : (b : ℕ) (ps : List (List ℕ)) → is_byte b ≡ true → are_texts ps ≡ true → are_texts (onto_first b ps) ≡ true
onto b [] is are = and_from (list_all is_byte (b ∷ [])) true (and_from (is_byte b) true is refl) refl
onto b (p ∷ ps) is are =
    let parts = and_parts (list_all is_byte p) (are_texts ps) are in
    and_from (list_all is_byte (b ∷ p)) (are_texts ps) (and_from (is_byte b) (list_all is_byte p) is parts.0) parts.1

pub pieces_made : (separator : ℕ) (bytes : List ℕ) → list_all is_byte bytes ≡ true → are_texts (pieces separator bytes) ≡ true
pieces_made separator [] are = refl
pieces_made separator (b ∷ bs) are =
    let parts = and_parts (is_byte b) (list_all is_byte bs) are in
    elim (eqb b separator) as (λ c. are_texts (cond c ([] ∷ pieces separator bs) (onto_first b (pieces separator bs))) ≡ true) [
      | true ↦ and_from (list_all is_byte []) (are_texts (pieces separator bs)) refl (pieces_made separator bs parts.1)
      | false ↦ onto b (pieces separator bs) parts.0 (pieces_made separator bs parts.1)
    ]
