-- Paths whose classes are right below some, counted class by class.
use Rattle.std.proofs.Common.{◌≡◌, ℕ, zero, suc, ◌+◌, ◌<◌, Bool, true, false, ◌||◌, List, [], ◌∷◌, ◌++◌, length, take, get_or, eqb, nat_cmp, Less, Option, Some}
use Rattle.std.proofs.Common.{None, refl, sym, ap, ◌∙◌, arith, is_some}
use Rattle.std.proofs.Math.Dec.{eqb→eq}
use Rattle.std.specs.Prelude.{count_by, ◌==◌, if◌then◌else◌}
use Rattle.std.specs.List.{AllByRecursion}
use Rattle.std.specs.List.Sorted.{IsStrictlySortedBy, IsStrictlyIncreasing}
use Rattle.std.specs.Option.{option_map_or}
use Rattle.std.proofs.lemmas.List.Folds.{list_any-append}
use Rattle.std.proofs.lemmas.List.Sums.{sum_by-cons}
use Rattle.std.proofs.lemmas.Map.Keys.{sorted_from_strictly_increasing}
use Rattle.acl_names.specs.Paths.{PathOf}
use Rattle.acl_names.proofs.Basics.{to_T}
use Rattle.kinds.specs.Tagged.{meets}
use Rattle.path_classes.specs.declared.path_class.PathClass.{PathClass}
use Rattle.path_classes.specs.ClassTags.{below_tag, class_tags}
use Rattle.path_classes.specs.FoundClasses.{is_below_some}
use Rattle.path_classes.specs.Renewing.{is_one}
use Rattle.path_classes.proofs.ClassTags.{below_tags}

-- ---- a number of a rising list is none of those before it

less_apart : (n m : ℕ) → nat_cmp n m ≡ Less → eqb n m ≡ false
less_apart n m less = grind (arith, less)

above_all : (n : ℕ) (ms : List ℕ) (i d : ℕ) → AllByRecursion (λ m. nat_cmp n m ≡ Less) ms → i < length ms → nat_cmp n (get_or ms i d) ≡ Less
above_all n [] i d h lt = absurd (omega (arith, lt))
above_all n (m ∷ ms) zero d h lt = h.0
above_all n (m ∷ ms) (suc i) d h lt = above_all n ms i d h.1 (omega (arith, lt))

new_number : (ns : List ℕ) (i d : ℕ) → IsStrictlySortedBy nat_cmp ns → i < length ns → is_one (get_or ns i d) (take i ns) ≡ false
unfolding IsStrictlySortedBy
new_number [] i d rises lt = absurd (omega (arith, lt))
new_number (n ∷ ns) zero d rises lt = refl
new_number (n ∷ ns) (suc i) d rises lt =
    (λ j. less_apart n (get_or ns i d) (above_all n ns i d rises.0 (omega (arith, lt))) j || is_one (get_or ns i d) (take i ns)) ∙ new_number ns i d rises.1 (omega (arith, lt))

pub is_new : (ns : List ℕ) (i d : ℕ) → IsStrictlyIncreasing ns → i < length ns → is_one (get_or ns i d) (take i ns) ≡ false
is_new ns i d rises lt = new_number ns i d (sorted_from_strictly_increasing ns rises) lt

-- ---- one class more

abbrev one_of : Bool → ℕ
one_of b = if b then 1 else 0

apart : (a n : ℕ) (ns : List ℕ) → is_one n ns ≡ false → (y : Bool) → eqb a n ≡ y → one_of (is_one a ns || (eqb n a || false)) ≡ one_of (is_one a ns) + one_of (eqb a n)
apart a n ns out true is =
    let same : a ≡ n = eqb→eq a n (to_T (eqb a n) is) in
    let none : is_one a ns ≡ false = ap (λ m. is_one m ns) same ∙ out in
    let turned : eqb n a ≡ true = grind (arith, is) in
    (λ i. one_of (none i || (turned i || false))) ∙ (λ i. one_of (sym none i) + one_of (sym is i))
apart a n ns out false is = by (is_one a ns)
  where
    by : (x : Bool) → one_of (x || (eqb n a || false)) ≡ one_of x + one_of (eqb a n)
    by true = λ i. 1 + one_of (sym is i)
    by false = let turned : eqb n a ≡ false = grind (arith, is) in (λ i. one_of (turned i || false)) ∙ (λ i. 0 + one_of (sym is i))

one_class : (n : ℕ) (ns : List ℕ) → is_one n ns ≡ false → (c : PathClass)
    → one_of (is_below_some (ns ++ n ∷ []) c) ≡ one_of (is_below_some ns c) + one_of (meets (class_tags (is_some c.search) c.above c.kind) (below_tag n ∷ []))
one_class n ns out c = by c.above ∙ ap (λ b. one_of (is_below_some ns c) + one_of b) (sym (below_tags n (is_some c.search) c.above c.kind))
  where
    by : (above : Option ℕ) → one_of (option_map_or (λ a. is_one a (ns ++ n ∷ [])) above false)
        ≡ one_of (option_map_or (λ a. is_one a ns) above false) + one_of (option_map_or (λ a. a == n) above false)
    by None = refl
    by (Some a) = ap one_of (list_any-append (λ m. m == a) ns (n ∷ [])) ∙ apart a n ns out (eqb a n) refl

pub one_more : (n : ℕ) (ns : List ℕ) → is_one n ns ≡ false → (es : List (PathOf × PathClass))
    → count_by (λ e. is_below_some (ns ++ n ∷ []) e.1) es ≡ count_by (λ e. is_below_some ns e.1) es + count_by (λ e. meets (class_tags (is_some e.1.search) e.1.above e.1.kind) (below_tag n ∷ [])) es
one_more n ns out [] = refl
one_more n ns out (e ∷ es) =
    let touched : PathOf × PathClass → ℕ = λ x. one_of (is_below_some (ns ++ n ∷ []) x.1) in
    let before : PathOf × PathClass → ℕ = λ x. one_of (is_below_some ns x.1) in
    let below : PathOf × PathClass → ℕ = λ x. one_of (meets (class_tags (is_some x.1.search) x.1.above x.1.kind) (below_tag n ∷ [])) in
    let one = one_class n ns out e.1 in
    let more = one_more n ns out es in
    omega (arith, one, more, sum_by-cons touched e es, sum_by-cons before e es, sum_by-cons below e es)

-- the same classes in another order are the same
pub same_touched : (ms ns : List ℕ) → ((n : ℕ) → is_one n ms ≡ is_one n ns) → (c : PathClass) → is_below_some ms c ≡ is_below_some ns c
same_touched ms ns same c = by c.above
  where
    by : (above : Option ℕ) → option_map_or (λ a. is_one a ms) above false ≡ option_map_or (λ a. is_one a ns) above false
    by None = refl
    by (Some a) = same a

-- none is right below no class
pub none_touched : (es : List (PathOf × PathClass)) → 0 ≡ count_by (λ e. is_below_some [] e.1) es
none_touched [] = refl
none_touched (e ∷ es) =
    let none : PathOf × PathClass → ℕ = λ x. one_of (is_below_some [] x.1) in
    let here : none e ≡ 0 = by e.1.above in
    let more = none_touched es in
    omega (arith, here, more, sum_by-cons none e es)
  where
    by : (above : Option ℕ) → one_of (option_map_or (λ a. is_one a []) above false) ≡ 0
    by None = refl
    by (Some a) = refl
