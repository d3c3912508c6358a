-- What `changes` prints where nothing was granted before, and where nothing is granted after.
use Rattle.std.proofs.Common.{◌≡◌, ℕ, Bool, true, false, not, cond, List, [], ◌∷◌, ◌++◌, map, filter, refl, ap, ◌∙◌}
use Rattle.std.specs.Prelude.{codes, ◌||◌}
use Rattle.std.specs.List.{list_any}
use Rattle.acl_entry.specs.Check.{has}
use Rattle.acl_entry.specs.Perms.{Perms, numbered}
use Rattle.facl_answers.specs.Requests.{requests_granted}
use Rattle.facl_answers.specs.ChangesText.{requests_gained, change_line, change_lines}

abbrev requests : List Perms
requests = map numbered (1 ∷ 2 ∷ 3 ∷ 4 ∷ 5 ∷ 6 ∷ 7 ∷ [])

module _ (f g : Perms → Bool) where
  -- those that pass one test, and not another
  abbrev left : List Perms → List Perms
  left qs = filter (λ q. not (f q)) (filter g qs)

  -- where none passes the other test, these are all that pass the one
  all_left : (qs : List Perms) → list_any f qs ≡ false → left qs ≡ filter g qs
  all_left [] h = refl
  all_left (q ∷ qs) h = by (f q) (g q) refl h (all_left qs)
    where
      by : (s t : Bool) → f q ≡ s → (s || list_any f qs) ≡ false → (list_any f qs ≡ false → left qs ≡ filter g qs)
          → filter (λ r. not (f r)) (cond t (q ∷ filter g qs) (filter g qs)) ≡ cond t (q ∷ filter g qs) (filter g qs)
      by true t is h more = absurd (cc h)
      by false true is h more = ap (λ b. cond (not b) (q ∷ left qs) (left qs)) is ∙ ap (λ l. q ∷ l) (more h)
      by false false is h more = more h

none_at_zero : list_any (has 0) requests ≡ false
none_at_zero = refl

nothing_granted : requests_granted 0 ≡ []
nothing_granted = refl

gained_all : (after : ℕ) → requests_gained 0 after ≡ requests_granted after
gained_all after = all_left (has 0) (has after) requests none_at_zero

gained_none : (before : ℕ) → requests_gained before 0 ≡ []
gained_none before = ap (filter (λ q. not (has before q))) nothing_granted

with_nothing : {A : Type 0} (xs : List A) → xs ++ [] ≡ xs
with_nothing [] = refl
with_nothing (x ∷ xs) = ap (λ l. x ∷ l) (with_nothing xs)

pub all_gained : (path user : List ℕ) (after : ℕ) → change_lines path user 0 after ≡ change_line path user (codes "gains") (requests_granted after)
all_gained path user after =
    (λ i. change_line path user (codes "gains") (gained_all after i) ++ change_line path user (codes "loses") (gained_none after i))
    ∙ with_nothing (change_line path user (codes "gains") (requests_granted after))

pub all_lost : (path user : List ℕ) (before : ℕ) → change_lines path user before 0 ≡ change_line path user (codes "loses") (requests_granted before)
all_lost path user before =
    λ i. change_line path user (codes "gains") (gained_none before i) ++ change_line path user (codes "loses") (gained_all before i)
