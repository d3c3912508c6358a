-- The number that digits mean.
use Rattle.std.proofs.Common.{◌≡◌, ℕ, ◌+◌, ◌-◌, ◌*◌, ◌≤◌, ◌<◌, List, [], ◌∷◌, length, drop, get_or, None, refl, arith, ltb, false}
use Rattle.std.specs.Prelude.{◌&&◌}
use Rattle.std.proofs.lemmas.Bool.{and_right, le-ltb}
use Rattle.std.proofs.lemmas.List.{at_drop_more}
use Rattle.acl_entry.specs.Ids.{nobody}
use Rattle.acl_text.specs.Ids.{is_number, number_after, id_of}

pub number_after-ge : (n : ℕ) (bs : List ℕ) → n ≤ number_after n bs
number_after-ge n [] = omega arith
number_after-ge n (b ∷ bs) = omega (arith, number_after-ge (10 * n + (b - 48)) bs)

too_large : (bytes : List ℕ) → nobody ≤ number_after 0 bytes → (is_number bytes && ltb (number_after 0 bytes) nobody) ≡ false
too_large bytes le = and_right (is_number bytes) (ltb (number_after 0 bytes) nobody) (le-ltb (number_after 0 bytes) nobody le)

-- a front that means too large a number
pub no_id : (bytes : List ℕ) (id i : ℕ) → i < length bytes → number_after id (drop i bytes) ≡ number_after 0 bytes → nobody ≤ 10 * id + (get_or bytes i 0 - 48) → None ≡ id_of bytes
no_id bytes id i lt e over =
    let more : number_after id (drop i bytes) ≡ number_after (10 * id + (get_or bytes i 0 - 48)) (drop (i + 1) bytes) = at_drop_more (number_after id) bytes i 0 lt in
    rw (too_large bytes (omega (arith, e, more, number_after-ge (10 * id + (get_or bytes i 0 - 48)) (drop (i + 1) bytes)))) refl
