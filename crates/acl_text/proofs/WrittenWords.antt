-- Names and numbers that are written are read as the ids that they mean.
use Rattle.std.proofs.Common.{◌≡◌, ℕ, ◌+◌, ◌-◌, ◌*◌, ◌/◌, ◌%◌, ◌^◌, ◌<◌, ◌≤◌, true, false, eqb, leb, List, [], ◌∷◌, ◌++◌, length, Option, Some, None, refl, ap, ◌∙◌, arith, inl, inr, length-append}
use Rattle.std.specs.Prelude.{◌==◌, ◌||◌, ◌&&◌, decimal, nat_lt}
use Rattle.std.specs.List.{list_all, AllByRecursion}
use Rattle.std.specs.Char.{is_ascii_digit}
use Rattle.std.proofs.lemmas.Bool.{cases_Bool, and_parts, and_from, or_parts, ne_eqb, le-leb, lt-ltb, leb-true}
use Rattle.std.proofs.lemmas.Fmt.{decimal_by_steps}
use Rattle.acl_names.specs.Names.{decoded, escaped, escape, byte_text, is_escaped_in_paths, is_escaped_in_names}
use Rattle.acl_names.proofs.Escapes.{name_again}
use Rattle.acl_names.proofs.PathText.{are_bytes}
use Rattle.acl_entry.specs.Ids.{nobody}
use Rattle.acl_text.specs.Ids.{is_number, number_after}
use Rattle.acl_text.specs.Words.{named_id, word_id}
use Rattle.acl_text.specs.Writing.{id_text, IsNamed}
use Rattle.acl_text.proofs.Plain.{is_mark, is_plain, plain_from, digit-plain, list_all-append, trimmed_plain}

-- ---- numbers

-- the digits of a number
record AreDigitsOf (n : ℕ) (ds : List ℕ) : Type 0 where
  value : number_after 0 ds ≡ n
  digits : list_all is_ascii_digit ds ≡ true
  some : 0 < length ds

number_after-append : (n : ℕ) (xs : List ℕ) (d : ℕ) → number_after n (xs ++ d ∷ []) ≡ 10 * number_after n xs + (d - 48)
number_after-append n [] d = refl
number_after-append n (x ∷ xs) d = number_after-append (10 * n + (x - 48)) xs d

digit : (b : ℕ) → 48 ≤ b → b ≤ 57 → is_ascii_digit b ≡ true
digit b low high = and_from (leb 48 b) (leb b 57) (le-leb 48 b low) (le-leb b 57 high)

one_digit : (n : ℕ) → n < 10 → AreDigitsOf n ((48 + n) ∷ [])
one_digit n lt = record {
  value = omega arith;
  digits = and_from (is_ascii_digit (48 + n)) true (digit (48 + n) (omega arith) (omega arith)) refl;
  some = omega arith;
}

more_digits : (n : ℕ) (ds : List ℕ) → 10 ≤ n → AreDigitsOf (n / 10) ds → AreDigitsOf n (ds ++ ((48 + n % 10) ∷ []))
more_digits n ds le are = record {
  value = omega (arith, number_after-append 0 ds (48 + n % 10), are.value);
  digits = list_all-append is_ascii_digit ds ((48 + n % 10) ∷ []) are.digits (and_from (is_ascii_digit (48 + n % 10)) true (digit (48 + n % 10) (omega arith) (omega arith)) refl);
  some = omega (arith, length-append ds ((48 + n % 10) ∷ []));
}

decimal_digits : (n : ℕ) → n < 2 ^ 64 → AreDigitsOf n (decimal n)
decimal_digits n lt = decimal_by_steps AreDigitsOf one_digit more_digits n lt

digit_low : (b : ℕ) → is_ascii_digit b ≡ true → (48 ≤ b) × (b ≤ 57)
digit_low b is = let parts = and_parts (leb 48 b) (leb b 57) is in (leb-true 48 b parts.0, leb-true b 57 parts.1)

digits_plain : (ds : List ℕ) → list_all is_ascii_digit ds ≡ true → list_all is_plain ds ≡ true
digits_plain [] are = refl
digits_plain (d ∷ ds) are =
    let parts = and_parts (is_ascii_digit d) (list_all is_ascii_digit ds) are in
    let range = digit_low d parts.0 in
    and_from (is_plain d) (list_all is_plain ds) (digit-plain d range.0 range.1) (digits_plain ds parts.1)

digits_decoded : (ds : List ℕ) → list_all is_ascii_digit ds ≡ true → decoded ds ≡ ds
digits_decoded [] are = refl
digits_decoded (d ∷ ds) are =
    let parts = and_parts (is_ascii_digit d) (list_all is_ascii_digit ds) are in
    let range = digit_low d parts.0 in
    let no : eqb d 92 ≡ false = ne_eqb d 92 (λ e. omega arith) in
    rw no (ap (λ (bs : List ℕ). d ∷ bs) (digits_decoded ds parts.1))

number_again : (look_up : List ℕ → Option ℕ) (n : ℕ) (ds : List ℕ) → n < nobody → AreDigitsOf n ds → word_id look_up ds ≡ Some n
number_again look_up n ds lt are =
    let is : is_number ds ≡ true = and_from (nat_lt 0 (length ds)) (list_all is_ascii_digit ds) (lt-ltb 0 (length ds) are.some) are.digits in
    let small : nat_lt n nobody ≡ true = lt-ltb n nobody lt in
    ap (λ (w : List ℕ). named_id look_up (decoded w)) (trimmed_plain ds (digits_plain ds are.digits)) ∙ (ap (named_id look_up) (digits_decoded ds are.digits) ∙ rw (is, are.value, small) refl)

-- ---- names

octal_plain : (b : ℕ) → b < 256 → list_all is_plain (escape b) ≡ true
octal_plain b lt =
    let x = digit-plain (48 + b / 64) (omega arith) (omega arith) in
    let y = digit-plain (48 + (b / 8) % 8) (omega arith) (omega arith) in
    let z = digit-plain (48 + b % 8) (omega arith) (omega arith) in
    and_from (is_plain (48 + b / 64)) (is_plain (48 + (b / 8) % 8) && (is_plain (48 + b % 8) && true)) x
    (and_from (is_plain (48 + (b / 8) % 8)) (is_plain (48 + b % 8) && true) y (and_from (is_plain (48 + b % 8)) true z refl))

unescaped_plain : (b : ℕ) → is_escaped_in_names b ≡ false → is_plain b ≡ true
unescaped_plain b isnt =
    let parts = or_parts (is_escaped_in_paths b) (is_mark b) isnt in
    let path = or_parts (b == 92) ((b == 10) || (b == 13)) parts.0 in
    plain_from b (or_parts (b == 10) (b == 13) path.1).0 parts.1

byte_plain : (b : ℕ) → b < 256 → list_all is_plain (byte_text (is_escaped_in_names b) b) ≡ true
byte_plain b lt =
    elim (cases_Bool (is_escaped_in_names b)) [
      | inl is ↦ rw is (octal_plain b lt)
      | inr isnt ↦ rw isnt (and_from (is_plain b) true (unescaped_plain b isnt) refl)
    ]

name_plain : (name : List ℕ) → AllByRecursion (λ b. b < 256) name → list_all is_plain (escaped name) ≡ true
name_plain [] are = refl
name_plain (b ∷ bs) are = list_all-append is_plain (byte_text (is_escaped_in_names b) b) (escaped bs) (byte_plain b are.0) (name_plain bs are.1)

byte_some : (b : ℕ) → 0 < length (byte_text (is_escaped_in_names b) b)
byte_some b =
    elim (cases_Bool (is_escaped_in_names b)) [
      | inl is ↦ rw is (omega arith)
      | inr isnt ↦ rw isnt (omega arith)
    ]

name_some : (name : List ℕ) → 0 < length name → 0 < length (escaped name)
name_some [] some = absurd (omega arith)
name_some (b ∷ bs) some = omega (arith, byte_some b, length-append (byte_text (is_escaped_in_names b) b) (escaped bs))

-- ---- both

-- a word that means an id
pub record IsWordOf (look_up : List ℕ → Option ℕ) (id : ℕ) (word : List ℕ) : Type 0 where
  pub again : word_id look_up word ≡ Some id
  pub plain : list_all is_plain word ≡ true
  pub some : 0 < length word

pub word_again : (look_up : List ℕ → Option ℕ) (id : ℕ) (name : Option (List ℕ)) → id < nobody → IsNamed look_up id name → IsWordOf look_up id (id_text id name)
word_again look_up id None lt named =
    let are = decimal_digits id (omega arith) in
    record { again = number_again look_up id (decimal id) lt are; plain = digits_plain (decimal id) are.digits; some = are.some }
word_again look_up id (Some name) lt named =
    let bytes = are_bytes name named.made_of_bytes in
    record {
      again = ap (λ (w : List ℕ). named_id look_up (decoded w)) (trimmed_plain (escaped name) (name_plain name bytes))
          ∙ (ap (named_id look_up) (name_again name bytes) ∙ rw named.no_number named.found);
      plain = name_plain name bytes;
      some = name_some name named.not_empty;
    }
