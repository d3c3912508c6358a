-- Counts of paths by number: many paths are counted, and then each number gets or loses its paths at once; few are counted by
-- runs of one number.
use Rattle.std.proofs.Common.{◌≡◌, ℕ, Bool, true, false, ◌+◌, ◌-◌, ◌<◌, ◌≤◌, cond, List, [], ◌∷◌, ◌++◌, length, get_or, Option, Some, refl, ap, subst, ◌∙◌, arith, ltb-true, ltb-false}
use Rattle.std.specs.Prelude.{◌==◌, nat_lt}
use Rattle.std.specs.List.{AllByRecursion}
use Rattle.std.proofs.lemmas.List.{get_or_past}
use Rattle.acl_names.specs.Paths.{PathOf}
use Rattle.acl_names.proofs.Basics.{all_end}
use Rattle.kinds.specs.Kinds.{KindsOf, count_at, IsNode, Grants, Releases}
use Rattle.kinds.specs.Numbered.{Numbers, entries_by, one_if, paths_with, AreUsed}
use Rattle.kinds.specs.Inner.{Extends, HasNumber, CountsRun, AddsAll}
use Rattle.kinds.specs.Placed.{ArePlaces, by_place, AddsNodes}
use Rattle.kinds.specs.Counted.{CountsOne, CountsFound, ReleasesEach, CountsPaths, AreNodes, GrantsEach, CountsAll, CountsBut, AddsUncounted}
use Rattle.kinds.proofs.Numbers.{eq_true, push_read, node_within}
use Rattle.kinds.proofs.EntriesBy.{all_at, entry_first, entries_append, entries_extend, used_extend, paths_with-append}
use Rattle.kinds.proofs.Puts.{found_more}

-- ---- paths that were looked up

pub found_one_more : (numbers : ℕ) (os : List (Option ℕ)) (o : Option ℕ) (counts counts1 : List ℕ) → CountsFound numbers os counts → CountsOne counts o counts1
    → CountsFound numbers (os ++ o ∷ []) counts1
found_one_more numbers os o counts counts1 h one = record {
  long = one.long ∙ h.long;
  counts = λ n lt.
      let long = h.long in
      let a = one.counts n (omega (arith, lt, long)) in
      let b = h.counts n lt in
      let c = found_more n os o in
      omega (arith, a, b, c);
}

-- one path more has a number
pub paths_one_more : (numbers : ℕ) (es : Numbers) (e : PathOf × ℕ) (counts counts1 : List ℕ) → CountsPaths numbers es counts
    → CountsOne counts (Some e.1) counts1 → CountsPaths numbers (es ++ e ∷ []) counts1
paths_one_more numbers es e counts counts1 h one = record {
  long = one.long ∙ h.long;
  counts = λ n lt.
      let long = h.long in
      let a = one.counts n (omega (arith, lt, long)) in
      let b = h.counts n lt in
      let c = paths_with-append n es (e ∷ []) in
      omega (arith, a, b, c);
}

-- ---- each number loses its paths at once

module _ {N : Type 0} where
  pub each_more : (k0 k k1 : KindsOf N) (counts : List ℕ) (count : ℕ) → ReleasesEach k0 counts k → Releases k (length counts) count k1 → ReleasesEach k0 (counts ++ count ∷ []) k1
  each_more k0 k k1 counts count h releases = record {
    nodes = λ n lt. let a = releases.counts n in let some : 0 < count_at k n = omega (arith, a, lt) in releases.nodes n lt ∙ h.nodes n some;
    counts = λ n. releases.counts n ∙ by n (n == length counts) refl;
  }
    where
      by : (n : ℕ) (b : Bool) → (n == length counts) ≡ b → count_at k n - cond b count 0 ≡ count_at k0 n - get_or (counts ++ count ∷ []) n 0
      by n true same =
          let past : get_or counts n 0 ≡ 0 = get_or_past counts n 0 (let e = eq_true n (length counts) same in omega (arith, e)) in
          let here : get_or (counts ++ count ∷ []) n 0 ≡ count = push_read counts n count 0 ∙ ap (λ b. cond b count (get_or counts n 0)) same in
          let a = h.counts n in
          omega (arith, past, here, a)
      by n false other =
          let here : get_or (counts ++ count ∷ []) n 0 ≡ get_or counts n 0 = push_read counts n count 0 ∙ ap (λ b. cond b count (get_or counts n 0)) other in
          let a = h.counts n in
          omega (arith, here, a)

  -- ---- each number gets its paths at once

  pub grants_each_more : (k0 k k1 : KindsOf N) (counts : List ℕ) (count : ℕ) → GrantsEach k0 counts k → Grants k (length counts) count k1 → GrantsEach k0 (counts ++ count ∷ []) k1
  grants_each_more k0 k k1 counts count h grants = record {
    nodes = λ n. grants.nodes n ∙ h.nodes n;
    counts = λ n. grants.counts n ∙ by n (n == length counts) refl;
  }
    where
      by : (n : ℕ) (b : Bool) → (n == length counts) ≡ b → count_at k n + cond b count 0 ≡ count_at k0 n + get_or (counts ++ count ∷ []) n 0
      by n true same =
          let past : get_or counts n 0 ≡ 0 = get_or_past counts n 0 (let e = eq_true n (length counts) same in omega (arith, e)) in
          let here : get_or (counts ++ count ∷ []) n 0 ≡ count = push_read counts n count 0 ∙ ap (λ b. cond b count (get_or counts n 0)) same in
          let a = h.counts n in
          omega (arith, past, here, a)
      by n false other =
          let here : get_or (counts ++ count ∷ []) n 0 ≡ get_or counts n 0 = push_read counts n count 0 ∙ ap (λ b. cond b count (get_or counts n 0)) other in
          let a = h.counts n in
          omega (arith, here, a)

  -- a number that some path has is that of a node
  pub used_number : (k : KindsOf N) (ns : Numbers) (n : ℕ) → AreUsed k ns → 0 < paths_with n ns → IsNode k n
  used_number k [] n used some = absurd (omega arith)
  used_number k (e ∷ ns) n used some = by (e.1 == n) refl (λ more. used_number k ns n used.1 more)
    where
      by : (b : Bool) → (e.1 == n) ≡ b → (0 < paths_with n ns → IsNode k n) → IsNode k n
      by true same rest = subst (λ m. IsNode k m) (eq_true e.1 n same) used.0
      by false other rest =
          let here : one_if n e.1 ≡ 0 = ap (λ b. cond b 1 0) other in
          rest (omega (arith, some, here))

  pub used_places : (k : KindsOf N) (numbers : List ℕ) (es : Numbers) → AllByRecursion (λ n. IsNode k n) numbers → ArePlaces (length numbers) es → AreUsed k (by_place numbers es)
  used_places k numbers [] nodes places = tt
  used_places k numbers (e ∷ es) nodes places = (all_at (λ n. IsNode k n) numbers e.1 0 places.0 nodes, used_places k numbers es nodes places.1)

  pub are_nodes : (k : KindsOf N) (ns : Numbers) (numbers : ℕ) (table : List ℕ) → AreUsed k ns → CountsPaths numbers ns table → AreNodes k table
  are_nodes k ns numbers table used counts = λ n some. by n some (nat_lt n numbers) refl
    where
      by : (n : ℕ) → 0 < get_or table n 0 → (b : Bool) → nat_lt n numbers ≡ b → IsNode k n
      by n some true lt =
          let is = counts.counts n (ltb-true _ _ lt) in
          used_number k ns n used (omega (arith, some, is))
      by n some false ge =
          let long = counts.long in
          let le = ltb-false _ _ ge in
          let none : get_or table n 0 ≡ 0 = get_or_past table n 0 (omega (arith, le, long)) in
          absurd (omega (arith, some, none))

  -- paths that are counted, as each number gets its paths
  pub counts_each : (k k1 : KindsOf N) (ns : Numbers) (table : List ℕ) → AreUsed k ns → CountsPaths (length k.0) ns table → GrantsEach k table k1 → CountsAll k ns k1
  counts_each k k1 ns table used counted grants = record {
    nodes = grants.nodes;
    counts = λ n. by n (nat_lt n (length k.0)) refl;
  }
    where
      none_past : (n : ℕ) → length k.0 ≤ n → (b : Bool) → nat_lt 0 (paths_with n ns) ≡ b → paths_with n ns ≡ 0
      none_past n le true some =
          let is = used_number k ns n used (ltb-true _ _ some) in
          let lt = node_within k.0 n is.0 is.1 in
          absurd (omega (arith, lt, le))
      none_past n le false none = let ge = ltb-false _ _ none in omega (arith, ge)

      by : (n : ℕ) (b : Bool) → nat_lt n (length k.0) ≡ b → count_at k1 n ≡ count_at k n + paths_with n ns
      by n true lt =
          let a = grants.counts n in
          let c = counted.counts n (ltb-true _ _ lt) in
          omega (arith, a, c)
      by n false ge =
          let a = grants.counts n in
          let le = ltb-false _ _ ge in
          let long = counted.long in
          let past : get_or table n 0 ≡ 0 = get_or_past table n 0 (omega (arith, le, long)) in
          let none = none_past n le (nat_lt 0 (paths_with n ns)) refl in
          omega (arith, a, past, none)

  -- ---- paths that are counted by runs

  pub counts_more : (k0 k k1 : KindsOf N) (es : Numbers) (e : PathOf × ℕ) (last pending count : ℕ) → CountsBut k0 es k last pending → IsNode k0 e.1
      → CountsRun k last pending e.1 k1 count → CountsBut k0 (es ++ e ∷ []) k1 e.1 count
  counts_more k0 k k1 es e last pending count h is run = record {
    nodes = λ n. run.nodes n ∙ h.nodes n;
    counts = λ n.
        let a = run.counts n in
        let b = h.counts n in
        let c = paths_with-append n es (e ∷ []) in
        omega (arith, a, b, c);
    there = λ lt. (is.0, run.nodes e.1 ∙ h.nodes e.1 ∙ is.1);
  }

  pub counts_all : (k0 k k1 : KindsOf N) (es : Numbers) (last pending : ℕ) → CountsBut k0 es k last pending → Grants k last pending k1 → CountsAll k0 es k1
  counts_all k0 k k1 es last pending h grants = record {
    nodes = λ n. grants.nodes n ∙ h.nodes n;
    counts = λ n. let a = grants.counts n in let b = h.counts n in omega (arith, a, b);
  }

  -- ---- nodes that were added before any path is counted

  pub adds_counted : (k0 k k1 : KindsOf N) (es : Numbers) → AddsUncounted k0 k es → CountsAll k es k1 → AddsAll k0 (entries_by k es) k1 es
  adds_counted k0 k k1 es h all =
      let ext : Extends k k1 = λ n x is. all.nodes n ∙ is in
      record {
        extends = λ n x is. ext n x (h.extends n x is);
        counts = λ n. let a = all.counts n in let b = h.counts n in omega (arith, a, b);
        used = used_extend k k1 es ext h.used;
        made = entries_extend k k1 es ext h.used;
      }

  pub uncounted_more : (k0 k k1 : KindsOf N) (es : Numbers) (p : PathOf) (x : N) (at : ℕ) → AddsUncounted k0 k es → HasNumber k x at k1 → AddsUncounted k0 k1 (es ++ (p, at) ∷ [])
  uncounted_more k0 k k1 es p x at h one = record {
    extends = λ n y is. one.extends n y (h.extends n y is);
    counts = λ n. one.counts n ∙ h.counts n;
    used = all_end (λ e. IsNode k1 e.1) es (p, at) (used_extend k k1 es one.extends h.used) (x, one.here);
  }

  pub entries_more : (k0 k k1 : KindsOf N) (es : Numbers) (p : PathOf) (x : N) (at : ℕ) → AddsUncounted k0 k es → HasNumber k x at k1
      → entries_by k1 (es ++ (p, at) ∷ []) ≡ entries_by k es ++ (p, x) ∷ []
  entries_more k0 k k1 es p x at h one =
      entries_append k1 es ((p, at) ∷ [])
      ∙ (λ i. entries_extend k k1 es one.extends h.used i ++ entry_first k1 (p, at) [] x one.here i)

  pub uncounted_placed : (k0 k : KindsOf N) (nodes : List (Option N)) (numbers : List ℕ) (es : Numbers) → AddsNodes k0 nodes numbers k
      → AllByRecursion (λ n. IsNode k n) numbers → ArePlaces (length numbers) es → AddsUncounted k0 k (by_place numbers es)
  uncounted_placed k0 k nodes numbers es h are places = record {
    extends = h.extends;
    counts = h.counts;
    used = used_places k numbers es are places;
  }
