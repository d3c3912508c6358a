-- The text of a path whose components are in one list of bytes: with a `/` for each NUL byte but the last.
use Rattle.std.proofs.Common.{◌≡◌, ◌<◌, ℕ, zero, suc, true, false, map, length, take, drop, set, get_or, arith, List, [], ◌∷◌, ◌++◌, refl, sym, ap, ◌∙◌, append_assoc}
use Rattle.std.specs.Prelude.{◌==◌}
use Rattle.std.specs.List.{list_any, list_all, flat_map, AllByRecursion}
use Rattle.std.proofs.lemmas.Bool.{and_parts, or_parts, ne_eqb}
use Rattle.std.proofs.lemmas.List.{map-append, same_from_push}
use Rattle.acl_names.specs.Names.{is_escaped_in_paths, escaped_where}
use Rattle.acl_names.specs.Packed.{packed, unpacked, IsPacked, with_slash}
use Rattle.acl_names.specs.Paths.{is_component, after_slash, joined, path_text}
use Rattle.acl_names.proofs.Packs.{clean_component}
use Rattle.acl_names.proofs.Escapes.{written_whole}

-- one more is written
pub one_written : (g : ℕ → ℕ) (xs : List ℕ) (i d : ℕ) → i < length xs
    → set (map g (take i xs) ++ drop i xs) i (g (get_or (map g (take i xs) ++ drop i xs) i d)) ≡ map g (take (suc i) xs) ++ drop (suc i) xs
one_written g [] i d lt = absurd (omega (arith, lt))
one_written g (x ∷ xs) zero d lt = refl
one_written g (x ∷ xs) (suc i) d lt = ap (λ (l : List ℕ). g x ∷ l) (one_written g xs i d (omega (arith, lt)))

pub none_of_three : (bytes : List ℕ) → list_any (λ b. b == 92) bytes ≡ false → list_any (λ b. b == 10) bytes ≡ false → list_any (λ b. b == 13) bytes ≡ false
    → list_any is_escaped_in_paths bytes ≡ false
none_of_three [] one two three = refl
none_of_three (b ∷ bs) one two three =
    let first = or_parts (b == 92) (list_any (λ b. b == 92) bs) one in
    let second = or_parts (b == 10) (list_any (λ b. b == 10) bs) two in
    let third = or_parts (b == 13) (list_any (λ b. b == 13) bs) three in
    rw (first.0, second.0, third.0) (none_of_three bs first.1 second.1 third.1)

slashes_none : (name : List ℕ) → AllByRecursion (λ b. (b == 0) ≡ false) name → map with_slash name ≡ name
slashes_none [] clean = refl
slashes_none (b ∷ bs) clean = rw clean.0 (ap (λ (l : List ℕ). b ∷ l) (slashes_none bs clean.1))

slashes_name : (name rest : List ℕ) → AllByRecursion (λ b. (b == 0) ≡ false) name → map with_slash (name ++ 0 ∷ rest) ≡ name ++ 47 ∷ map with_slash rest
slashes_name name rest clean = map-append with_slash name (0 ∷ rest) ∙ ap (λ (l : List ℕ). l ++ 47 ∷ map with_slash rest) (slashes_none name clean)

slashes_others : (names : List (List ℕ)) → list_all is_component names ≡ true → 47 ∷ map with_slash (packed names) ≡ flat_map after_slash names ++ 47 ∷ []
slashes_others [] are = refl
slashes_others (name ∷ names) are =
    let parts = and_parts (is_component name) (list_all is_component names) are in
    ap (λ (l : List ℕ). 47 ∷ l)
    (slashes_name name (packed names) (clean_component name parts.0) ∙ ap (λ (l : List ℕ). name ++ l) (slashes_others names parts.1) ∙ sym (append_assoc name (flat_map after_slash names) (47 ∷ [])))

escaped_as_before : (b : ℕ) → is_escaped_in_paths (with_slash b) ≡ is_escaped_in_paths b
escaped_as_before zero = refl
escaped_as_before (suc b) = rw (ne_eqb (suc b) 0 (λ (e : suc b ≡ 0). omega (arith, e))) refl

plain_slashed : (xs : List ℕ) (last : ℕ) → list_any is_escaped_in_paths (xs ++ last ∷ []) ≡ false → list_any is_escaped_in_paths (map with_slash xs) ≡ false
plain_slashed [] last plain = refl
plain_slashed (x ∷ xs) last plain =
    let parts = or_parts (is_escaped_in_paths x) (list_any is_escaped_in_paths (xs ++ last ∷ [])) plain in
    rw (escaped_as_before x, parts.0, plain_slashed xs last parts.1) refl

text_of : (names : List (List ℕ)) (front : List ℕ) (last : ℕ) → list_all is_component names ≡ true → packed names ≡ front ++ last ∷ [] → map with_slash front ≡ joined names
text_of [] [] last are is = absurd cc
text_of [] (f ∷ front) last are is = absurd cc
text_of (name ∷ names) front last are is =
    let parts = and_parts (is_component name) (list_all is_component names) are in
    (same_from_push (map with_slash front) (joined (name ∷ names)) (with_slash last) 47
    (sym (map-append with_slash front (last ∷ [])) ∙ sym (ap (map with_slash) is) ∙ slashes_name name (packed names) (clean_component name parts.0)
    ∙ ap (λ (l : List ℕ). name ++ l) (slashes_others names parts.1) ∙ sym (append_assoc name (flat_map after_slash names) (47 ∷ [])))).0

-- what is written at once is the text of the path
pub plain_text : (bytes front : List ℕ) (last : ℕ) → IsPacked bytes → list_any is_escaped_in_paths bytes ≡ false → bytes ≡ front ++ last ∷ [] → map with_slash front ≡ path_text (unpacked bytes)
plain_text bytes front last are plain is =
    let names = unpacked bytes in
    let text : map with_slash front ≡ joined names = text_of names front last are.valid (are.whole ∙ is) in
    sym (written_whole is_escaped_in_paths (map with_slash front) (plain_slashed front last (sym (ap (list_any is_escaped_in_paths) is) ∙ plain)))
    ∙ ap (escaped_where is_escaped_in_paths) text
