-- The files that mention one of some groups are no more than those that mention each of them, in all.
use Rattle.std.proofs.Common.{◌≡◌, ℕ, ◌+◌, ◌≤◌, Bool, true, false, cond, ◌||◌, eqb, List, [], ◌∷◌, length, refl, sym, ap, ◌∙◌, arith}
use Rattle.std.specs.Prelude.{count_by}
use Rattle.std.specs.List.{list_any}
use Rattle.std.specs.Cmp.{nat_eq_equiv}
use Rattle.std.proofs.lemmas.List.Sums.{sum_by-cons, length-filter}
use Rattle.acl_entry.specs.Mentions.{mentions, meets, is_one_of}
use Rattle.acl_edit.specs.declared.node.Node.{Node}
use Rattle.acl_names.specs.Paths.{PathOf}
use Rattle.acl_tree.specs.Files.{Files}
use Rattle.acl_rights.specs.Groups.{mentions_group, mentions_one, mentioning, sum_mentioning}

-- ---- a label mentions one of some groups where it mentions one by itself

abbrev has_one : List ℕ → PathOf × Node → Bool
has_one groups e = list_any (λ g. mentions_group g e) groups

four : (a b c d : Bool) → ((a || b) || (c || d)) ≡ ((a || c) || (b || d))
four true b c d = refl
four false true true d = refl
four false true false d = refl
four false false c d = refl

any_or : (p q : ℕ → Bool) (xs : List ℕ) → list_any (λ x. p x || q x) xs ≡ (list_any p xs || list_any q xs)
any_or p q [] = refl
any_or p q (x ∷ xs) = ap (λ b. (p x || q x) || b) (any_or p q xs) ∙ four (p x) (q x) (list_any p xs) (list_any q xs)

any_none : (xs : List ℕ) → false ≡ list_any (λ (x : ℕ). false) xs
any_none [] = refl
any_none (x ∷ xs) = any_none xs

among_same : (m : ℕ) (ids : List ℕ) → is_one_of m ids ≡ list_any (λ g. eqb m g) ids
among_same m [] = refl
among_same m (x ∷ ids) = λ i. nat_eq_equiv.symm x m i || among_same m ids i

meets-swap : (ms ids : List ℕ) → meets ms ids ≡ list_any (λ g. is_one_of g ms) ids
meets-swap [] ids = any_none ids
meets-swap (m ∷ ms) ids =
    (λ i. among_same m ids i || meets-swap ms ids i) ∙ sym (any_or (λ g. eqb m g) (λ g. is_one_of g ms) ids)

-- ---- how many

either_one : (p q : PathOf × Node → Bool) (fs : Files) → count_by (λ f. p f || q f) fs ≤ count_by p fs + count_by q fs
either_one p q [] = omega arith
either_one p q (f ∷ fs) =
    let e = sum_by-cons (λ g. cond (p g || q g) 1 0) f fs in
    let a = sum_by-cons (λ g. cond (p g) 1 0) f fs in
    let b = sum_by-cons (λ g. cond (q g) 1 0) f fs in
    let rest = either_one p q fs in
    let here : cond (p f || q f) 1 0 ≤ cond (p f) 1 0 + cond (q f) 1 0 = elim (p f) as (λ x. cond (x || q f) 1 0 ≤ cond x 1 0 + cond (q f) 1 0) [ true ↦ omega arith | false ↦ omega arith ] in
    omega (arith, e, a, b, rest, here)

count_ones : (ids : List ℕ) (fs : Files) → count_by (has_one ids) fs ≤ sum_mentioning ids fs
count_ones [] fs = none fs
  where
    none : (fs : Files) → count_by (λ (f : PathOf × Node). false) fs ≤ 0
    none [] = omega arith
    none (f ∷ fs) = let e = sum_by-cons (λ (g : PathOf × Node). 0) f fs in let r = none fs in omega (arith, e, r)
count_ones (g ∷ ids) fs =
    let e = sum_by-cons (λ h. length (mentioning h fs)) g ids in
    let one = length-filter (mentions_group g) fs in
    let both = either_one (mentions_group g) (has_one ids) fs in
    let rest = count_ones ids fs in
    omega (arith, e, one, both, rest)

count_same : (f g : PathOf × Node → Bool) → ((e : PathOf × Node) → f e ≡ g e) → (fs : Files) → count_by f fs ≡ count_by g fs
count_same f g same [] = refl
count_same f g same (e ∷ fs) =
    sum_by-cons (λ x. cond (f x) 1 0) e fs
    ∙ (let more = count_same f g same fs in λ i. cond (same e i) 1 0 + more i)
    ∙ sym (sum_by-cons (λ x. cond (g x) 1 0) e fs)

pub looked_le : (groups : List ℕ) (fs : Files) → count_by (mentions_one groups) fs ≤ sum_mentioning groups fs
looked_le groups fs =
    let same = count_same (mentions_one groups) (has_one groups) (λ e. meets-swap (mentions e.1.label) groups) fs in
    omega (arith, same, count_ones groups fs)
