-- The groups that a user joined or left.
use Rattle.std.proofs.Common.{◌≡◌, ℕ, ◌<◌, Bool, true, false, List, [], length, map, get_or, slice_get, slice_set, Some, refl, sym, ap, subst, ◌∙◌}
use Rattle.std.specs.FinSet as sets
use Rattle.std.specs.FinSet.{same_set, nat_cmp-IsAntisymmetric}
use Rattle.std.proofs.lemmas.Cmp.{nat_cmp_total}
use Rattle.std.proofs.lemmas.List.{set-get_or, length-map}
use Rattle.std.proofs.lemmas.Option.{get_or_from_slice_get, slice_get_within}
use Rattle.acl_entry.specs.Person.{Person}
use Rattle.acl_entry.specs.GroupsOfOne.{AreMoved, in_just_one}
use Rattle.acl_people.specs.Moves.{ChangesUser}
use Rattle.acl_people.proofs.Pointers.{value_at}

in_none : (a b : Bool) → false ≡ in_just_one a b → b ≡ a
in_none true true h = refl
in_none true false h = cc
in_none false true h = cc
in_none false false h = refl

person_same : (p q : Person) → p.uid ≡ q.uid → p.groups ≡ q.groups → p ≡ q
person_same p q uid groups = λ i. record { uid = uid i; groups = groups i }

-- no id that moved, no user that changed
pub none_moved : (old new : List Person) (u : ℕ) (ch : ChangesUser old new u) → AreMoved ch.before ch.after [] → new ≡ old
none_moved old new u ch moved =
    let groups : ch.after.groups ≡ ch.before.groups =
    same_set nat_cmp_total nat_cmp-IsAntisymmetric _ _ (λ g. in_none (sets.contains ch.before.groups g) (sets.contains ch.after.groups g) (moved.just g)) in
    ch.becomes
    ∙ ap (λ (p : Person). slice_set old u p) (person_same ch.after ch.before ch.uid groups ∙ sym (get_or_from_slice_get old u ch.before ch.before ch.was))
    ∙ set-get_or old u ch.before

-- the subject at a place
pub subject_is : {A : Type 0} (f : A → Person) (xs : List A) (ps : List Person) (u : ℕ) (x : A) (p : Person) → map f xs ≡ ps → slice_get ps u ≡ Some p → x ≡ get_or xs u x → f x ≡ p
subject_is f xs ps u x p all at is = same (sym (value_at f xs u x within is) ∙ ap (λ l. slice_get l u) all ∙ at)
  where
    within : u < length xs
    within = subst (λ n. u < n) (ap length (sym all) ∙ length-map xs f) (slice_get_within ps u p at)

    same : Some (f x) ≡ Some p → f x ≡ p
    same e = cc
