-- What is done at places, and what it does to a row of all users.
use Rattle.std.proofs.Common.{◌≡◌, ℕ, zero, suc, ◌+◌, ◌<◌, ◌==◌, ◌||◌, Bool, true, false, List, [], ◌∷◌, length, map, take, get_or, set, replicate}
use Rattle.std.proofs.Common.{if◌then◌else◌, refl, ap, sym, ◌∙◌, ⊎_elim, eq-eqb, arith}
use Rattle.std.specs.Int.RustNames.{bit_or}
use Rattle.std.specs.FinSet as sets
use Rattle.std.proofs.lemmas.Bool.{cases_eq, ne_eqb}
use Rattle.std.proofs.lemmas.List.{get_or-set_same, get_or-set_other, get_or-map, ext_get_or, length-map}
use Rattle.std.proofs.lemmas.List.Folds.{list_any_more, list_any_at}
use Rattle.std.proofs.lemmas.Nat.Bits.{bit_at_or, same_from_bits}
use Rattle.acl_entry.specs.Person.{Person}
use Rattle.acl_entry.specs.Mentions.{is_one_of}
use Rattle.acl_people.specs.Places.{AreThose, passes_at}

-- a place of the list is one of them
pub is_listed : (places : List ℕ) (i : ℕ) → i < length places → is_one_of (get_or places i 0) places ≡ true
is_listed places i lt = list_any_at (λ x. x == get_or places i 0) places i 0 lt (eq-eqb (get_or places i 0) (get_or places i 0) refl)

-- requests that are added twice
pub or_twice : (a b : ℕ) → bit_or (bit_or a b) b ≡ bit_or a b
or_twice a b = same_from_bits (bit_or (bit_or a b) b) (bit_or a b) (λ i.
    let outer = bit_at_or (bit_or a b) b i in
    let inner = bit_at_or a b i in
    omega (arith, outer, inner))

-- ---- one place more, at which h is done: twice is as once
module _ (h : ℕ → ℕ) (once : (n : ℕ) → h (h n) ≡ h n) (places old row : List ℕ) (i w : ℕ) (lt : i < length places) (in_range : get_or places i 0 < length row)
    (is : w ≡ h (get_or row (get_or places i 0) 0)) (so_far : (at : ℕ) → get_or row at 0 ≡ (if is_one_of at (take i places) then h (get_or old at 0) else get_or old at 0)) where
  more : (at : ℕ) → is_one_of at (take (i + 1) places) ≡ (is_one_of at (take i places) || (get_or places i 0 == at))
  more at = list_any_more (λ x. x == at) places i 0 lt

  again : (b : Bool) (n : ℕ) → h (if b then h n else n) ≡ h n
  again true n = once n
  again false n = refl

  or_true : (b : Bool) → (b || true) ≡ true
  or_true true = refl
  or_true false = refl

  or_false : (b : Bool) → (b || false) ≡ b
  or_false true = refl
  or_false false = refl

  here : (at : ℕ) → get_or places i 0 ≡ at → get_or (set row (get_or places i 0) w) at 0 ≡ (if is_one_of at (take (i + 1) places) then h (get_or old at 0) else get_or old at 0)
  here at e =
      ap (λ q. get_or (set row (get_or places i 0) w) q 0) (sym e)
      ∙ get_or-set_same row (get_or places i 0) w 0 in_range
      ∙ is
      ∙ ap (λ q. h (get_or row q 0)) e
      ∙ ap h (so_far at)
      ∙ again (is_one_of at (take i places)) (get_or old at 0)
      ∙ ap (λ b. if b then h (get_or old at 0) else get_or old at 0)
      (sym (more at ∙ ap (λ b. is_one_of at (take i places) || b) (eq-eqb (get_or places i 0) at e) ∙ or_true (is_one_of at (take i places))))

  elsewhere : (at : ℕ) → (get_or places i 0 ≡ at → ⊥) → get_or (set row (get_or places i 0) w) at 0 ≡ (if is_one_of at (take (i + 1) places) then h (get_or old at 0) else get_or old at 0)
  elsewhere at ne =
      get_or-set_other row (get_or places i 0) at w 0 (λ e. ne (sym e))
      ∙ so_far at
      ∙ ap (λ b. if b then h (get_or old at 0) else get_or old at 0)
      (sym (more at ∙ ap (λ b. is_one_of at (take i places) || b) (ne_eqb (get_or places i 0) at ne) ∙ or_false (is_one_of at (take i places))))

  pub done_more : (at : ℕ) → get_or (set row (get_or places i 0) w) at 0 ≡ (if is_one_of at (take (i + 1) places) then h (get_or old at 0) else get_or old at 0)
  done_more at = ⊎_elim (here at) (elsewhere at) (cases_eq (get_or places i 0) at)

-- ---- the row of all users

nobody : Person
nobody = record { uid = 0; groups = sets.empty }

passes_there : (test : Person → Bool) (users : List Person) (at : ℕ) (d : Person) → at < length users → passes_at test users at ≡ test (get_or users at d)
passes_there test [] at d lt = absurd (omega arith)
passes_there test (u ∷ users) zero d lt = refl
passes_there test (u ∷ users) (suc at) d lt = passes_there test users at d (omega arith)

-- h is done at the places of the users who pass
pub done_is : (h : ℕ → ℕ) (test : Person → Bool) (f : Person → ℕ) (users : List Person) (places old new : List ℕ)
    → AreThose test users places → length new ≡ length users → old ≡ map f users
    → ((at : ℕ) → get_or new at 0 ≡ (if is_one_of at places then h (get_or old at 0) else get_or old at 0))
    → new ≡ map (λ u. if test u then h (f u) else f u) users
done_is h test f users places old new those long is done =
    ext_get_or 0 new (map (λ u. if test u then h (f u) else f u) users) (long ∙ sym (length-map users (λ u. if test u then h (f u) else f u))) at_place
  where
    at_place : (at : ℕ) → at < length new → get_or new at 0 ≡ get_or (map (λ u. if test u then h (f u) else f u) users) at 0
    at_place at lt =
        let within : at < length users = omega arith in
        let passes : is_one_of at places ≡ test (get_or users at nobody) = those at ∙ passes_there test users at nobody within in
        let had : get_or old at 0 ≡ f (get_or users at nobody) = ap (λ l. get_or l at 0) is ∙ get_or-map f users at nobody 0 within in
        done at
        ∙ (λ i. if passes i then h (had i) else had i)
        ∙ sym (get_or-map (λ u. if test u then h (f u) else f u) users at nobody 0 within)

-- the same requests for all
pub same_for_all : (n k : ℕ) (users : List Person) → length users ≡ k → replicate k n ≡ map (λ u. n) users
same_for_all n k users long = ap (λ m. replicate m n) (sym long) ∙ by users
  where
    by : (us : List Person) → replicate (length us) n ≡ map (λ u. n) us
    by [] = refl
    by (u ∷ us) = ap (λ l. n ∷ l) (by us)
