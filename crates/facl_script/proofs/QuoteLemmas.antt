-- Whether a quote is left open follows from the number of quotes.
use Rattle.std.proofs.Common.{◌≡◌, ℕ, Bool, true, false, not, cond, List, [], ◌∷◌, length, Option, None, Some, refl, sym, ap, ◌∙◌, arith, true≢false, filter, ◌%◌}
use Rattle.std.specs.Prelude.{option_map}
use Rattle.std.proofs.lemmas.Bool.Decides.{nat_tests}
use Rattle.facl_script.specs.declared.words.Place.{Place}
use Rattle.facl_script.specs.declared.words.Place.TheVariants.{Between, Within, Quoted}
use Rattle.facl_script.specs.Words.{is_blank, is_quote, onto_word, words_at, words_of}

odd : List ℕ → Bool
odd [] = false
odd (b ∷ bs) = cond (is_quote b) (not (odd bs)) (odd bs)

is_open : Option (List (List ℕ)) → Bool
is_open None = true
is_open (Some words) = false

open_mapped : (f : List (List ℕ) → List (List ℕ)) (o : Option (List (List ℕ))) → is_open (option_map f o) ≡ is_open o
unfolding is_open
open_mapped f None = refl
open_mapped f (Some words) = refl

odd_at : Place → List ℕ → Bool
odd_at Between line = odd line
odd_at Within line = odd line
odd_at Quoted line = not (odd line)

white_no_quote : (b : ℕ) → is_blank b ≡ true → is_quote b ≡ false
white_no_quote b h = grind (arith, nat_tests, h)

not_not : (b : Bool) → b ≡ not (not b)
not_not true = refl
not_not false = refl

open_more : (place : Place) (b : ℕ) (rest : List ℕ) → ((p : Place) → is_open (words_at p rest) ≡ odd_at p rest) → is_open (words_at place (b ∷ rest)) ≡ odd_at place (b ∷ rest)
unfolding odd_at odd
open_more Between b rest ih = by_tests (is_blank b) (is_quote b) (white_no_quote b)
  where
    by_tests : (w q : Bool) → (w ≡ true → q ≡ false) → is_open
        (cond w (words_at Between rest) (cond q (words_at Quoted rest) (option_map (onto_word b) (words_at Within rest)))) ≡ cond q (not (odd rest)) (odd rest)
    by_tests true q h = rw (h refl) (ih Between)
    by_tests false true h = ih Quoted
    by_tests false false h = open_mapped (onto_word b) (words_at Within rest) ∙ ih Within
open_more Within b rest ih = by_tests (is_blank b) (is_quote b) (white_no_quote b)
  where
    by_tests : (w q : Bool) → (w ≡ true → q ≡ false) → is_open
        (cond w (option_map (λ words. [] ∷ words) (words_at Between rest)) (cond q (words_at Quoted rest) (option_map (onto_word b) (words_at Within rest)))) ≡ cond q (not (odd rest)) (odd rest)
    by_tests true q h = rw (h refl) (open_mapped (λ words. [] ∷ words) (words_at Between rest) ∙ ih Between)
    by_tests false true h = ih Quoted
    by_tests false false h = open_mapped (onto_word b) (words_at Within rest) ∙ ih Within
open_more Quoted b rest ih = by_tests (is_quote b)
  where
    by_tests : (q : Bool) → is_open (cond q (words_at Within rest) (option_map (onto_word b) (words_at Quoted rest))) ≡ not (cond q (not (odd rest)) (odd rest))
    by_tests true = ih Within ∙ not_not (odd rest)
    by_tests false = open_mapped (onto_word b) (words_at Quoted rest) ∙ ih Quoted

open_nothing : (place : Place) → is_open (words_at place []) ≡ odd_at place []
unfolding is_open odd_at odd
open_nothing Between = refl
open_nothing Within = refl
open_nothing Quoted = refl

open_at : (place : Place) (line : List ℕ) → is_open (words_at place line) ≡ odd_at place line
open_at place [] = open_nothing place
open_at place (b ∷ rest) = open_more place b rest (λ p. open_at p rest)

bit : Bool → ℕ
bit true = 1
bit false = 0

odd_count : (line : List ℕ) → length (filter is_quote line) % 2 ≡ bit (odd line)
unfolding odd bit
odd_count [] = refl
odd_count (b ∷ line) = by_test (is_quote b) (odd line) (odd_count line)
  where
    by_test : (q o : Bool) → length (filter is_quote line) % 2 ≡ bit o → length (cond q (b ∷ filter is_quote line) (filter is_quote line)) % 2 ≡ bit (cond q (not o) o)
    by_test true true h = omega (arith, h)
    by_test true false h = omega (arith, h)
    by_test false o h = h

odd_open : (line : List ℕ) → is_open (words_of line) ≡ odd line
unfolding odd_at
odd_open line = open_at Between line

pub open_odd : (line : List ℕ) → words_of line ≡ None → length (filter is_quote line) % 2 ≡ 1
unfolding is_open bit
open_odd line h = odd_count line ∙ ap bit (sym (odd_open line) ∙ ap is_open h)

none_where_open : (o : Option (List (List ℕ))) → is_open o ≡ true → o ≡ None
unfolding is_open
none_where_open None h = refl
none_where_open (Some words) h = absurd (true≢false (sym h))

odd_where_bit : (o : Bool) → bit o ≡ 1 → o ≡ true
unfolding bit
odd_where_bit true h = refl
odd_where_bit false h = absurd (omega (arith, h))

pub odd_opens : (line : List ℕ) → length (filter is_quote line) % 2 ≡ 1 → words_of line ≡ None
odd_opens line h = none_where_open (words_of line) (odd_open line ∙ odd_where_bit (odd line) (sym (odd_count line) ∙ h))
