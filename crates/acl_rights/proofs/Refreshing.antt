-- How many verdicts along paths a line makes again.
use Rattle.std.proofs.Common.{◌≡◌, ℕ, ◌+◌, ◌*◌, ◌^◌, ◌<◌, ◌≤◌, Bool, false, cond, ◌||◌, List, [], ◌∷◌, length, map, refl, sym, ap, ◌∙◌, arith}
use Rattle.std.specs.Prelude.{count_by}
use Rattle.std.specs.List.{list_any}
use Rattle.std.proofs.lemmas.List.Sums.{sum_by-cons, count_by-le-length}
use Rattle.acl_names.specs.Below.{encloses}
use Rattle.acl_edit.specs.declared.node.Node.{Node}
use Rattle.acl_names.specs.Paths.{PathOf}
use Rattle.acl_tree.specs.Files.{Files}
use Rattle.acl_tree.specs.Reports.{StagedState}
use Rattle.acl_tree.specs.declared.user_change.UserChange.TheVariants.{Unchanged}
use Rattle.path_map.specs.Below.{lies_in}
use Rattle.acl_rights.specs.Reach.{moves_refreshed, verdicts_refreshed}
use Rattle.path_classes.proofs.Maps.{times_le}

-- paths alone decide
pub count_paths : {A B : Type 0} (f : PathOf → Bool) (es : List (PathOf × A)) (fs : List (PathOf × B)) → map (λ (e : PathOf × A). e.0) es ≡ map (λ (e : PathOf × B). e.0) fs
    → count_by (λ (e : PathOf × A). f e.0) es ≡ count_by (λ (e : PathOf × B). f e.0) fs
count_paths f [] [] h = refl
count_paths f [] (g ∷ fs) h = cc
count_paths f (e ∷ es) [] h = cc
count_paths {A = A} {B = B} f (e ∷ es) (g ∷ fs) h =
    let first : e.0 ≡ g.0 = cc in
    let rest : map (λ (e : PathOf × A). e.0) es ≡ map (λ (e : PathOf × B). e.0) fs = cc in
    sum_by-cons (λ (x : PathOf × A). cond (f x.0) 1 0) e es
    ∙ (let more = count_paths f es fs rest in λ i. cond (f (first i)) 1 0 + more i)
    ∙ sym (sum_by-cons (λ (x : PathOf × B). cond (f x.0) 1 0) g fs)

pub lies_paths : {A B : Type 0} (tops : List (PathOf × A)) (others : List (PathOf × B))
    → map (λ (t : PathOf × A). t.0) tops ≡ map (λ (t : PathOf × B). t.0) others → (p : PathOf) → lies_in tops p ≡ list_any (λ (t : PathOf × B). encloses t.0 p) others
lies_paths [] [] h p = refl
lies_paths [] (o ∷ others) h p = cc
lies_paths (t ∷ tops) [] h p = cc
lies_paths {A = A} {B = B} (t ∷ tops) (o ∷ others) h p =
    let first : t.0 ≡ o.0 = cc in
    let rest : map (λ (t : PathOf × A). t.0) tops ≡ map (λ (t : PathOf × B). t.0) others = cc in
    let more = lies_paths tops others rest p in
    λ i. encloses (first i) p || more i

count_alike : {A : Type 0} (f g : A → Bool) → ((x : A) → f x ≡ g x) → (xs : List A) → count_by f xs ≡ count_by g xs
count_alike f g h [] = refl
count_alike f g h (x ∷ xs) =
    sum_by-cons (λ y. cond (f y) 1 0) x xs
    ∙ (let more = count_alike f g h xs in λ i. cond (h x i) 1 0 + more i)
    ∙ sym (sum_by-cons (λ y. cond (g y) 1 0) x xs)

-- how many files are at some paths or below them
pub count_lying : {A B : Type 0} (tops : List (PathOf × A)) (es : List (PathOf × B)) (others fs : Files)
    → map (λ (t : PathOf × A). t.0) tops ≡ map (λ (t : PathOf × Node). t.0) others → map (λ (e : PathOf × B). e.0) es ≡ map (λ (e : PathOf × Node). e.0) fs
    → count_by (λ (e : PathOf × B). lies_in tops e.0) es ≡ count_by (λ (e : PathOf × Node). lies_in others e.0) fs
count_lying tops es others fs same paths =
    count_paths (lies_in tops) es fs paths ∙ count_alike (λ (e : PathOf × Node). lies_in tops e.0) (λ (e : PathOf × Node). lies_in others e.0) (λ e. lies_paths tops others same e.0) fs

pub count_none : {A : Type 0} (fs : List (PathOf × A)) → count_by (λ (e : PathOf × A). false) fs ≡ 0
count_none [] = refl
count_none {A} (f ∷ fs) = sum_by-cons (λ (e : PathOf × A). 0) f fs ∙ ap (λ n. 0 + n) (count_none fs)

module _ (t : StagedState) where
  -- files change
  pub files_most : (counted users : ℕ) → t.user_change ≡ Unchanged → counted ≤ count_by (λ (e : PathOf × Node). lies_in t.changed e.0) t.state.tree.files
      → users ≡ length t.state.people.users → counted * users ≤ verdicts_refreshed t
  files_most counted users is w u =
      let all = count_by (λ (e : PathOf × Node). lies_in t.changed e.0) t.state.tree.files in
      let le = times_le counted all users w in
      let turned = ap (λ n. all * n) u ∙ swapped all (length t.state.people.users)
      ∙ ap (λ m. length t.state.people.users * all + moves_refreshed m t.state.tree.files) (sym is) in
      omega (arith, le, turned)
    where
      swapped : (a b : ℕ) → a * b ≡ b * a + 0
      swapped a b = grind arith

  pub files_fit : (counted users : ℕ) → counted ≤ count_by (λ (e : PathOf × Node). lies_in t.changed e.0) t.state.tree.files
      → users ≡ length t.state.people.users → length t.state.tree.files * length t.state.people.users < 2 ^ 64 → counted * users < 2 ^ 64
  files_fit counted users w u fits =
      let most = count_by-le-length (λ (e : PathOf × Node). lies_in t.changed e.0) t.state.tree.files in
      let le = times_le counted (length t.state.tree.files) users (omega (arith, w, most)) in
      let same = ap (λ n. length t.state.tree.files * n) u in
      omega (arith, le, same, fits)

  -- no file changes
  pub users_refreshed : (n : ℕ) → t.changed ≡ [] → n ≡ moves_refreshed t.user_change t.state.tree.files → n ≡ verdicts_refreshed t
  users_refreshed n none is =
      let all : length t.state.people.users * count_by (λ (e : PathOf × Node). lies_in t.changed e.0) t.state.tree.files ≡ 0 =
      ap (λ (es : Files). length t.state.people.users * count_by (λ (e : PathOf × Node). lies_in es e.0) t.state.tree.files) none
      ∙ ap (λ k. length t.state.people.users * k) (count_none t.state.tree.files) ∙ times_none (length t.state.people.users) in
      is ∙ plus (length t.state.people.users * count_by (λ (e : PathOf × Node). lies_in t.changed e.0) t.state.tree.files) (moves_refreshed t.user_change t.state.tree.files) all
    where
      times_none : (u : ℕ) → u * 0 ≡ 0
      times_none u = grind arith

      plus : (a b : ℕ) → a ≡ 0 → b ≡ a + b
      plus a b h = omega (arith, h)
