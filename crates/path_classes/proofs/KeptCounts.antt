-- Counts of classes without those of some paths.
use Rattle.std.proofs.Common.{◌≡◌, ℕ, ◌+◌, ◌<◌, Bool, true, false, List, [], ◌∷◌, ◌++◌, map, take, length, get_or, eqb, refl, ap, ◌∙◌, arith}
use Rattle.std.specs.Prelude.{◌-◌, if◌then◌else◌}
use Rattle.std.specs.Borrow.{Bor}
use Rattle.acl_names.specs.Paths.{PathOf}
use Rattle.path_map.specs.Entries.{seen}
use Rattle.kinds.specs.Kinds.{count_at}
use Rattle.kinds.specs.Inner.{pending_at}
use Rattle.kinds.specs.Numbered.{Numbers, one_if, paths_with}
use Rattle.kinds.proofs.EntriesBy.{items_more}
use Rattle.path_classes.specs.PathClasses.{ClassKinds}
use Rattle.path_classes.proofs.ClassTags.{eqb_swap}

-- a path more of the run
pub run_more : (k : ClassKinds) (last number pending : ℕ) → number ≡ last → (n : ℕ) → count_at k n - pending_at n number (pending + 1) ≡ (count_at k n - pending_at n last pending) - one_if n number
run_more k last number pending same n =
    by (eqb n number) refl
    ∙ ap (λ m. (count_at k n - pending_at n m pending) - one_if n number) same
  where
    by : (b : Bool) → eqb n number ≡ b → count_at k n - pending_at n number (pending + 1) ≡ (count_at k n - pending_at n number pending) - one_if n number
    by true is =
        let a : pending_at n number (pending + 1) ≡ pending + 1 = ap (λ b. if b then pending + 1 else 0) is in
        let b : pending_at n number pending ≡ pending = ap (λ b. if b then pending else 0) is in
        let c : one_if n number ≡ 1 = ap (λ b. if b then 1 else 0) (eqb_swap number n ∙ is) in
        omega (arith, a, b, c)
    by false is =
        let a : pending_at n number (pending + 1) ≡ 0 = ap (λ b. if b then pending + 1 else 0) is in
        let b : pending_at n number pending ≡ 0 = ap (λ b. if b then pending else 0) is in
        let c : one_if n number ≡ 0 = ap (λ b. if b then 1 else 0) (eqb_swap number n ∙ is) in
        omega (arith, a, b, c)

-- the first path of a run, after the last run's are released
pub run_first : (old new : ClassKinds) (last number pending : ℕ) → ((n : ℕ) → count_at new n ≡ count_at old n - pending_at n last pending)
    → (n : ℕ) → count_at new n - pending_at n number 1 ≡ (count_at old n - pending_at n last pending) - one_if n number
run_first old new last number pending released n = λ i. released n i - (if eqb_swap n number i then 1 else 0)

paths_end : (n : ℕ) (es : Numbers) (e : PathOf × ℕ) → paths_with n (es ++ e ∷ []) ≡ paths_with n es + one_if n e.1
paths_end n [] e = omega arith
paths_end n (d ∷ es) e = let more = paths_end n es e in omega (arith, more)

pub left_more : (first old new : ClassKinds) (es : List (Bor PathOf × ℕ)) (at : ℕ) (e : Bor PathOf × ℕ) → at < length es → e ≡ get_or es at e → (last pending count : ℕ)
    → ((n : ℕ) → count_at old n - pending_at n last pending ≡ count_at first n - paths_with n (map seen (take at es)))
    → ((n : ℕ) → count_at new n - pending_at n e.1 count ≡ (count_at old n - pending_at n last pending) - one_if n e.1)
    → (n : ℕ) → count_at new n - pending_at n e.1 count ≡ count_at first n - paths_with n (map seen (take (at + 1) es))
left_more first old new es at e lt is last pending count so_far step n =
    let a = so_far n in
    let b = step n in
    let c = ap (paths_with n) (items_more seen es at e lt is) ∙ paths_end n (map seen (take at es)) (seen e) in
    omega (arith, a, b, c)
