-- A line that is neither blank nor a comment has a word.
use Rattle.std.proofs.Common.{◌≡◌, ℕ, Bool, true, false, List, [], ◌∷◌, Option, Some, None, if◌then◌else◌, option_map, true≢false}
use Rattle.std.specs.Prelude.{◌==◌}
use Rattle.acl_names.proofs.Basics.{none_is_not_some}
use Rattle.facl_script.specs.Words.{is_blank, is_quote, onto_word, words_at, words_of, has_no_words}
use Rattle.facl_script.specs.declared.words.Place.TheVariants.{Between, Within, Quoted}

some_word_is_not_none : {A : Type 0} (a : A) (as_ : List A) → Some (a ∷ as_) ≡ Some [] → ⊥
some_word_is_not_none a as_ h = cc

ended : (o : Option (List (List ℕ))) → option_map (λ words. [] ∷ words) o ≡ Some [] → ⊥
ended None h = none_is_not_some [] h
ended (Some words) h = some_word_is_not_none [] words h

onto : (b : ℕ) (o : Option (List (List ℕ))) → option_map (onto_word b) o ≡ Some [] → ⊥
onto b None h = none_is_not_some [] h
onto b (Some []) h = some_word_is_not_none (b ∷ []) [] h
onto b (Some (word ∷ words)) h = some_word_is_not_none (b ∷ word) words h

-- within a word or a quote there is a word
within : (bs : List ℕ) → (words_at Within bs ≡ Some [] → ⊥) × (words_at Quoted bs ≡ Some [] → ⊥)
within [] = ((λ h. some_word_is_not_none [] [] h), (λ h. none_is_not_some [] h))
within (b ∷ bs) = by (is_blank b) (is_quote b) (within bs)
  where
    by : (w q : Bool) → (words_at Within bs ≡ Some [] → ⊥) × (words_at Quoted bs ≡ Some [] → ⊥)
        → ((if w then option_map (λ words. [] ∷ words) (words_at Between bs) else (if q then words_at Quoted bs else option_map (onto_word b) (words_at Within bs))) ≡ Some [] → ⊥)
        × ((if q then words_at Within bs else option_map (onto_word b) (words_at Quoted bs)) ≡ Some [] → ⊥)
    by true true rest = ((λ h. ended (words_at Between bs) h), (λ h. rest.0 h))
    by true false rest = ((λ h. ended (words_at Between bs) h), (λ h. onto b (words_at Quoted bs) h))
    by false true rest = ((λ h. rest.1 h), (λ h. rest.0 h))
    by false false rest = ((λ h. onto b (words_at Within bs) h), (λ h. onto b (words_at Quoted bs) h))

pub has_a_word : (line : List ℕ) → has_no_words line ≡ false → words_of line ≡ Some [] → ⊥
has_a_word [] e h = true≢false e
has_a_word (b ∷ bs) e h = by (is_blank b) (is_quote b) e h (λ e h. has_a_word bs e h)
  where
    by : (w q : Bool) → (if w then has_no_words bs else b == 35) ≡ false
        → (if w then words_at Between bs else (if q then words_at Quoted bs else option_map (onto_word b) (words_at Within bs))) ≡ Some []
        → (has_no_words bs ≡ false → words_at Between bs ≡ Some [] → ⊥) → ⊥
    by true q e h rest = rest e h
    by false true e h rest = let both = within bs in both.1 h
    by false false e h rest = onto b (words_at Within bs) h
