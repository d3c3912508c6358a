-- The requests that are gained, one number more.
use Rattle.std.proofs.Common.{◌≡◌, ℕ, ◌+◌, ◌<◌, Bool, true, false, not, cond, List, [], ◌∷◌, ◌++◌, length, get_or, take, filter, append-nil, refl, ap, ◌∙◌}
use Rattle.std.specs.Prelude.{◌&&◌}
use Rattle.std.proofs.lemmas.List.Elements.{filter-append}
use Rattle.acl_entry.specs.Check.{has}
use Rattle.acl_entry.specs.Perms.{Perms, numbered}
use Rattle.facl_answers.proofs.Spaced.{among, among-more}

module _ (before after : ℕ) where
  abbrev gained : List Perms → List Perms
  gained qs = filter (λ q. not (has before q)) qs

  abbrev is_gained : Perms → Bool
  is_gained q = has after q && not (has before q)

  of_one : (q : Perms) → gained (filter (has after) (q ∷ [])) ≡ cond (is_gained q) (q ∷ []) []
  of_one q = by (has after q)
    where
      by : (b : Bool) → gained (cond b (q ∷ []) []) ≡ cond (b && not (has before q)) (q ∷ []) []
      by true = refl
      by false = refl

  one_more : (numbers : List ℕ) (i : ℕ) → i < length numbers
      → gained (among after (take (i + 1) numbers)) ≡ gained (among after (take i numbers)) ++ cond (is_gained (numbered (get_or numbers i 0))) (numbered (get_or numbers i 0) ∷ []) []
  one_more numbers i lt =
      ap gained (among-more after numbers i lt)
      ∙ filter-append (λ q. not (has before q)) (among after (take i numbers)) (filter (has after) (numbered (get_or numbers i 0) ∷ []))
      ∙ ap (λ l. gained (among after (take i numbers)) ++ l) (of_one (numbered (get_or numbers i 0)))

  pub one_gained : (numbers : List ℕ) (i : ℕ) → i < length numbers → is_gained (numbered (get_or numbers i 0)) ≡ true
      → gained (among after (take (i + 1) numbers)) ≡ gained (among after (take i numbers)) ++ numbered (get_or numbers i 0) ∷ []
  one_gained numbers i lt is = one_more numbers i lt ∙ ap (λ b. gained (among after (take i numbers)) ++ cond b (numbered (get_or numbers i 0) ∷ []) []) is

  pub one_kept : (numbers : List ℕ) (i : ℕ) → i < length numbers → is_gained (numbered (get_or numbers i 0)) ≡ false
      → gained (among after (take (i + 1) numbers)) ≡ gained (among after (take i numbers))
  one_kept numbers i lt is =
      one_more numbers i lt ∙ ap (λ b. gained (among after (take i numbers)) ++ cond b (numbered (get_or numbers i 0) ∷ []) []) is ∙ append-nil (gained (among after (take i numbers)))
