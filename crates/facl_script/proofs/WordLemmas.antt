-- Lemmas on the words of a line.
use Rattle.std.proofs.Common.{◌≡◌, ◌<◌, ◌≤◌, ◌+◌, ◌/◌, ◌⊎◌, inl, inr, length, true≢false, ℕ, Bool, true, false, cond, nat_lt, List, [], ◌∷◌, ◌++◌, Option, None}
use Rattle.std.proofs.Common.{Some, Ok, Err, refl, sym, ap, ◌∙◌, append_assoc, append-nil, arith}
use Rattle.std.specs.Prelude.{option_map}
use Rattle.std.proofs.lemmas.Bool.{ne_eqb, le-ltb, ltb-true, ltb-false}
use Rattle.std.proofs.lemmas.Str.{encode_ascii, length-encode, len_utf8_bounds, is_utf8-from_IsUtf8, IsUtf8-from_is_utf8}
use Rattle.std.specs.Str.{IsUtf8, is_utf8}
use Rattle.facl_script.specs.declared.words.SplitFault.TheVariants.{NotUtf8, OpenQuote}
use lib.Utf8.{encode, next}
use Rattle.facl_script.specs.declared.words.Place.{Place}
use Rattle.facl_script.specs.declared.words.Place.TheVariants.{Between, Within, Quoted}
use Rattle.facl_script.specs.declared.words.CharAction.{CharAction}
use Rattle.facl_script.specs.declared.words.CharAction.TheVariants.{Skips, Joins, Ends}
use Rattle.facl_script.specs.Words.{is_blank, is_quote, onto_word, words_at, words_of, split_line}
use Rattle.facl_script.specs.Steps.{action_of, place_after}

-- these bytes go to the front of the first word
abbrev pub onto_first : List ℕ → List (List ℕ) → List (List ℕ)
onto_first [] words = words
onto_first (b ∷ bs) words = onto_word b (onto_first bs words)

-- the words of a line of which some are done, one is started, and the rest is read from this place on
abbrev pub words_seen : List (List ℕ) → List ℕ → Place → List ℕ → Option (List (List ℕ))
words_seen done so_far place rest = option_map (λ words. done ++ onto_first so_far words) (words_at place rest)

-- an empty word before the rest is the word as it was started
pub onto_first_word : (so_far : List ℕ) (words : List (List ℕ)) → onto_first so_far ([] ∷ words) ≡ so_far ∷ words
onto_first_word [] words = refl
onto_first_word (b ∷ bs) words = ap (onto_word b) (onto_first_word bs words)

onto_first_more : (so_far : List ℕ) (b : ℕ) (words : List (List ℕ)) → onto_first so_far (onto_word b words) ≡ onto_first (so_far ++ b ∷ []) words
onto_first_more [] b words = refl
onto_first_more (a ∷ so_far) b words = ap (onto_word a) (onto_first_more so_far b words)

-- the words seen, after a character whose bytes these are
abbrev pub after_effect : CharAction → List (List ℕ) → List ℕ → Place → List ℕ → List ℕ → Option (List (List ℕ))
after_effect Skips done so_far place bytes rest = words_seen done so_far place rest
after_effect Joins done so_far place bytes rest = words_seen done (so_far ++ bytes) place rest
after_effect Ends done so_far place bytes rest = words_seen (done ++ so_far ∷ []) [] place rest

joins_map : (done : List (List ℕ)) (so_far : List ℕ) (b : ℕ) (o : Option (List (List ℕ)))
    → option_map (λ words. done ++ onto_first so_far words) (option_map (onto_word b) o) ≡ option_map (λ words. done ++ onto_first (so_far ++ b ∷ []) words) o
joins_map done so_far b None = refl
joins_map done so_far b (Some words) = ap (λ ws. Some (done ++ ws)) (onto_first_more so_far b words)

ends_map : (done : List (List ℕ)) (so_far : List ℕ) (o : Option (List (List ℕ)))
    → option_map (λ words. done ++ onto_first so_far words) (option_map (λ words. [] ∷ words) o) ≡ option_map (λ words. (done ++ so_far ∷ []) ++ onto_first [] words) o
ends_map done so_far None = refl
ends_map done so_far (Some words) = ap Some (ap (λ ws. done ++ ws) (onto_first_word so_far words) ∙ sym (append_assoc done (so_far ∷ []) words))

-- what is between words has no beginning of a word
abbrev pub IsPartOfWord : Place → List ℕ → Type 0
IsPartOfWord Between so_far = so_far ≡ []
IsPartOfWord Within so_far = Unit {0}
IsPartOfWord Quoted so_far = Unit {0}

-- a line of which some words are done, one is started, and the rest is read from this place on
pub record IsSeen (line : List ℕ) (done : List (List ℕ)) (so_far : List ℕ) (place : Place) (rest : List ℕ) : Type 0 where
  pub words : words_of line ≡ words_seen done so_far place rest
  pub word : IsPartOfWord place so_far

abbrev pub IsSeenAfter : CharAction → List ℕ → List (List ℕ) → List ℕ → Place → List ℕ → List ℕ → Type 0
IsSeenAfter Skips line done so_far place bytes rest = IsSeen line done so_far place rest
IsSeenAfter Joins line done so_far place bytes rest = IsSeen line done (so_far ++ bytes) place rest
IsSeenAfter Ends line done so_far place bytes rest = IsSeen line (done ++ so_far ∷ []) [] place rest

abbrev IsPartOfWordAfter : CharAction → Place → List ℕ → List ℕ → Type 0
IsPartOfWordAfter Skips place so_far bytes = IsPartOfWord place so_far
IsPartOfWordAfter Joins place so_far bytes = IsPartOfWord place (so_far ++ bytes)
IsPartOfWordAfter Ends place so_far bytes = IsPartOfWord place []

so_far_after : (place : Place) (c : ℕ) (so_far bytes : List ℕ) → IsPartOfWord place so_far → IsPartOfWordAfter (action_of place c) (place_after place c) so_far bytes
so_far_after Between c so_far bytes h = by_tests (is_blank c) (is_quote c)
  where
    by_tests : (w q : Bool) → IsPartOfWordAfter (cond w Skips (cond q Skips Joins)) (cond w Between (cond q Quoted Within)) so_far bytes
    by_tests true q = h
    by_tests false true = tt
    by_tests false false = tt
so_far_after Within c so_far bytes h = by_tests (is_blank c) (is_quote c)
  where
    by_tests : (w q : Bool) → IsPartOfWordAfter (cond w Ends (cond q Skips Joins)) (cond w Between (cond q Quoted Within)) so_far bytes
    by_tests true q = refl
    by_tests false true = tt
    by_tests false false = tt
so_far_after Quoted c so_far bytes h = by_tests (is_quote c)
  where
    by_tests : (q : Bool) → IsPartOfWordAfter (cond q Skips Joins) (cond q Within Quoted) so_far bytes
    by_tests true = tt
    by_tests false = tt

seen_after : (e : CharAction) (line : List ℕ) (done : List (List ℕ)) (so_far : List ℕ) (place : Place) (bytes rest : List ℕ)
    → words_of line ≡ after_effect e done so_far place bytes rest → IsPartOfWordAfter e place so_far bytes → IsSeenAfter e line done so_far place bytes rest
seen_after Skips line done so_far place bytes rest h b = record { words = h; word = b }
seen_after Joins line done so_far place bytes rest h b = record { words = h; word = b }
seen_after Ends line done so_far place bytes rest h b = record { words = h; word = b }

-- one byte of a line
pub seen_step : (done : List (List ℕ)) (so_far : List ℕ) (place : Place) (b : ℕ) (rest : List ℕ)
    → words_seen done so_far place (b ∷ rest) ≡ after_effect (action_of place b) done so_far (place_after place b) (b ∷ []) rest
seen_step done so_far Between b rest = by_tests (is_blank b) (is_quote b)
  where
    by_tests : (w q : Bool) → option_map (λ words. done ++ onto_first so_far words) (cond w (words_at Between rest) (cond q (words_at Quoted rest) (option_map (onto_word b) (words_at Within rest))))
        ≡ after_effect (cond w Skips (cond q Skips Joins)) done so_far (cond w Between (cond q Quoted Within)) (b ∷ []) rest
    by_tests true q = refl
    by_tests false true = refl
    by_tests false false = joins_map done so_far b (words_at Within rest)
seen_step done so_far Within b rest = by_tests (is_blank b) (is_quote b)
  where
    by_tests : (w q : Bool) → option_map (λ words. done ++ onto_first so_far words)
        (cond w (option_map (λ words. [] ∷ words) (words_at Between rest)) (cond q (words_at Quoted rest) (option_map (onto_word b) (words_at Within rest))))
        ≡ after_effect (cond w Ends (cond q Skips Joins)) done so_far (cond w Between (cond q Quoted Within)) (b ∷ []) rest
    by_tests true q = ends_map done so_far (words_at Between rest)
    by_tests false true = refl
    by_tests false false = joins_map done so_far b (words_at Within rest)
seen_step done so_far Quoted b rest = by_tests (is_quote b)
  where
    by_tests : (q : Bool) → option_map (λ words. done ++ onto_first so_far words) (cond q (words_at Within rest) (option_map (onto_word b) (words_at Quoted rest)))
        ≡ after_effect (cond q Skips Joins) done so_far (cond q Within Quoted) (b ∷ []) rest
    by_tests true = refl
    by_tests false = joins_map done so_far b (words_at Quoted rest)

-- bytes past ASCII
abbrev AllHigh : List ℕ → Type 0
AllHigh [] = Unit {0}
AllHigh (b ∷ bs) = (128 ≤ b) × AllHigh bs

encode_high : (c : ℕ) → 128 ≤ c → AllHigh (encode c)
unfolding encode
encode_high c h = by_tests _ _ _ (le-ltb c 128 h)
  where
    by_tests : (x y z : Bool) → x ≡ false
        → AllHigh (cond x (c ∷ [])
        (cond y ((192 + c / 64) ∷ next c ∷ []) (cond z ((224 + c / 4096) ∷ next (c / 64) ∷ next c ∷ []) ((240 + c / 262144) ∷ next (c / 4096) ∷ next (c / 64) ∷ next c ∷ []))))
    by_tests true y z e = absurd (true≢false e)
    by_tests false true z e = (omega arith, (omega arith, tt))
    by_tests false false true e = (omega arith, (omega arith, (omega arith, tt)))
    by_tests false false false e = (omega arith, (omega arith, (omega arith, (omega arith, tt))))

encode_some : (c : ℕ) → 128 ≤ c → 0 < length (encode c)
encode_some c h = omega (arith, length-encode c, (len_utf8_bounds c).0)

-- where a character after bytes past ASCII is
high_place : Place → Place
high_place Between = Within
high_place Within = Within
high_place Quoted = Quoted

high_effect : (place : Place) (c : ℕ) → 128 ≤ c → action_of place c ≡ Joins
high_effect Between c h = rw (ne_eqb c 32 (λ e. omega (arith, e, h)), ne_eqb c 9 (λ e. omega (arith, e, h)), ne_eqb c 39 (λ e. omega (arith, e, h))) refl
high_effect Within c h = rw (ne_eqb c 32 (λ e. omega (arith, e, h)), ne_eqb c 9 (λ e. omega (arith, e, h)), ne_eqb c 39 (λ e. omega (arith, e, h))) refl
high_effect Quoted c h = rw (ne_eqb c 39 (λ e. omega (arith, e, h))) refl

high_after : (place : Place) (c : ℕ) → 128 ≤ c → place_after place c ≡ high_place place
unfolding high_place
high_after Between c h = rw (ne_eqb c 32 (λ e. omega (arith, e, h)), ne_eqb c 9 (λ e. omega (arith, e, h)), ne_eqb c 39 (λ e. omega (arith, e, h))) refl
high_after Within c h = rw (ne_eqb c 32 (λ e. omega (arith, e, h)), ne_eqb c 9 (λ e. omega (arith, e, h)), ne_eqb c 39 (λ e. omega (arith, e, h))) refl
high_after Quoted c h = rw (ne_eqb c 39 (λ e. omega (arith, e, h))) refl

high_high : (place : Place) → high_place (high_place place) ≡ high_place place
unfolding high_place
high_high Between = refl
high_high Within = refl
high_high Quoted = refl

-- one byte past ASCII
seen_high : (done : List (List ℕ)) (so_far : List ℕ) (place : Place) (b : ℕ) (rest : List ℕ) → 128 ≤ b
    → words_seen done so_far place (b ∷ rest) ≡ words_seen done (so_far ++ b ∷ []) (high_place place) rest
seen_high done so_far place b rest h =
    seen_step done so_far place b rest ∙ ap (λ e. after_effect e done so_far (place_after place b) (b ∷ []) rest) (high_effect place b h)
    ∙ ap (λ p. words_seen done (so_far ++ b ∷ []) p rest) (high_after place b h)

-- bytes past ASCII, of which there is one at least
seen_all_high : (bs : List ℕ) (done : List (List ℕ)) (so_far : List ℕ) (place : Place) (rest : List ℕ) → AllHigh bs → 0 < length bs
    → words_seen done so_far place (bs ++ rest) ≡ words_seen done (so_far ++ bs) (high_place place) rest
seen_all_high [] done so_far place rest h some = absurd (omega (arith, some))
seen_all_high (b ∷ []) done so_far place rest h some = seen_high done so_far place b rest h.0
seen_all_high (b ∷ a ∷ bs) done so_far place rest h some =
    seen_high done so_far place b ((a ∷ bs) ++ rest) h.0 ∙ seen_all_high (a ∷ bs) done (so_far ++ b ∷ []) (high_place place) rest h.1 (omega arith)
    ∙ ap (λ p. words_seen done ((so_far ++ b ∷ []) ++ a ∷ bs) p rest) (high_high place) ∙ ap (λ l. words_seen done l (high_place place) rest) (append_assoc so_far (b ∷ []) (a ∷ bs))

by_ascii : (c : ℕ) → (c < 128) ⊎ (128 ≤ c)
by_ascii c = tested (nat_lt c 128) refl
  where
    tested : (b : Bool) → nat_lt c 128 ≡ b → (c < 128) ⊎ (128 ≤ c)
    tested true e = inl (ltb-true c 128 e)
    tested false e = inr (ltb-false c 128 e)

-- one character of a line that is text
pub seen_char : (done : List (List ℕ)) (so_far : List ℕ) (place : Place) (c : ℕ) (rest : List ℕ)
    → words_seen done so_far place (encode c ++ rest) ≡ after_effect (action_of place c) done so_far (place_after place c) (encode c) rest
seen_char done so_far place c rest = elim (by_ascii c) [ inl low ↦ ascii low | inr high ↦ past high ]
  where
    ascii : c < 128 → words_seen done so_far place (encode c ++ rest) ≡ after_effect (action_of place c) done so_far (place_after place c) (encode c) rest
    ascii low = rw (encode_ascii c low) (seen_step done so_far place c rest)

    past : 128 ≤ c → words_seen done so_far place (encode c ++ rest) ≡ after_effect (action_of place c) done so_far (place_after place c) (encode c) rest
    past high = rw (high_effect place c high, high_after place c high) (seen_all_high (encode c) done so_far place rest (encode_high c high) (encode_some c high))

pub char_seen : (line : List ℕ) (done : List (List ℕ)) (so_far : List ℕ) (place : Place) (c : ℕ) (rest : List ℕ)
    → IsSeen line done so_far place (encode c ++ rest) → IsSeenAfter (action_of place c) line done so_far (place_after place c) (encode c) rest
char_seen line done so_far place c rest h =
    seen_after (action_of place c) line done so_far (place_after place c) (encode c) rest (h.words ∙ seen_char done so_far place c rest) (so_far_after place c so_far (encode c) h.word)

pub byte_seen : (line : List ℕ) (done : List (List ℕ)) (so_far : List ℕ) (place : Place) (b : ℕ) (rest : List ℕ)
    → IsSeen line done so_far place (b ∷ rest) → IsSeenAfter (action_of place b) line done so_far (place_after place b) (b ∷ []) rest
byte_seen line done so_far place b rest h =
    seen_after (action_of place b) line done so_far (place_after place b) (b ∷ []) rest (h.words ∙ seen_step done so_far place b rest) (so_far_after place b so_far (b ∷ []) h.word)

-- nothing of the line is read
pub begins : (line : List ℕ) → words_of line ≡ words_seen [] [] Between line
begins line = same (words_of line)
  where
    same : (o : Option (List (List ℕ))) → o ≡ option_map (λ words. [] ++ onto_first [] words) o
    same None = refl
    same (Some words) = refl

-- the line is read to its end
pub seen_between : (line : List ℕ) (done : List (List ℕ)) (so_far : List ℕ) → IsSeen line done so_far Between [] → words_of line ≡ Some done
seen_between line done so_far h = h.words ∙ ap (λ w. Some (done ++ onto_first w [])) h.word ∙ ap Some (append-nil done)

pub seen_within : (line : List ℕ) (done : List (List ℕ)) (so_far : List ℕ) → IsSeen line done so_far Within [] → words_of line ≡ Some (done ++ so_far ∷ [])
seen_within line done so_far h = h.words ∙ ap (λ ws. Some (done ++ ws)) (onto_first_word so_far [])

pub seen_quoted : (line : List ℕ) (done : List (List ℕ)) (so_far : List ℕ) → IsSeen line done so_far Quoted [] → words_of line ≡ None
seen_quoted line done so_far h = h.words

pub nil_by_length : (xs : List ℕ) → length xs ≡ 0 → xs ≡ []
nil_by_length [] h = refl
nil_by_length (x ∷ xs) h = absurd (omega (arith, h))

-- how a line is split that is not a comment and not blank
pub split_text : (line : List ℕ) (words : List (List ℕ)) → IsUtf8 line → words_of line ≡ Some words → split_line line ≡ Ok words
split_text line words u h = rw (is_utf8-from_IsUtf8 line u, h) refl

pub split_open : (line : List ℕ) → IsUtf8 line → words_of line ≡ None → split_line line ≡ Err OpenQuote
split_open line u h = rw (is_utf8-from_IsUtf8 line u, h) refl

no_utf8 : (line : List ℕ) → (IsUtf8 line → ⊥) → is_utf8 line ≡ false
no_utf8 line h = tested (is_utf8 line) refl
  where
    tested : (b : Bool) → is_utf8 line ≡ b → is_utf8 line ≡ false
    tested true e = absurd (h (IsUtf8-from_is_utf8 line e))
    tested false e = e

pub split_bytes : (line : List ℕ) → (IsUtf8 line → ⊥) → split_line line ≡ Err NotUtf8
split_bytes line h = rw (no_utf8 line h) refl
