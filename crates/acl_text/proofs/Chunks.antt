-- Bytes cut into eights.
use Rattle.std.proofs.Common.{◌≡◌, ℕ, zero, suc, ◌+◌, ◌-◌, ◌/◌, ◌<◌, ◌≤◌, List, [], ◌∷◌, length, take, drop, refl, sym, ap, ◌∙◌, arith, length-drop}
use Rattle.std.proofs.lemmas.List.{take_all}
use Rattle.std.specs.Simd.{first_chunks}
use Rattle.acl_text.specs.Attr.{entries_in}

count_step : (n : ℕ) → 8 ≤ n → (n + 7) / 8 ≡ suc ((n - 8 + 7) / 8)
count_step n le = omega arith

-- eight bytes and more
pub entries_step : (bytes : List ℕ) → 8 ≤ length bytes → entries_in bytes ≡ take 8 bytes ∷ entries_in (drop 8 bytes)
entries_step bytes le =
    ap (λ n. first_chunks 8 n bytes) (count_step (length bytes) le)
    ∙ ap (λ n. take 8 bytes ∷ first_chunks 8 ((n + 7) / 8) (drop 8 bytes)) (sym (length-drop 8 bytes))

-- fewer than eight
pub entries_last : (bytes : List ℕ) → 0 < length bytes → length bytes < 8 → entries_in bytes ≡ bytes ∷ []
entries_last bytes some few =
    let one : (length bytes + 7) / 8 ≡ suc zero = omega arith in
    ap (λ n. first_chunks 8 n bytes) one ∙ ap (λ (b : List ℕ). b ∷ []) (take_all 8 bytes (omega arith))

pub length-first_chunks : (k : ℕ) (bytes : List ℕ) → length (first_chunks 8 k bytes) ≡ k
length-first_chunks zero bytes = refl
length-first_chunks (suc k) bytes = ap suc (length-first_chunks k (drop 8 bytes))
