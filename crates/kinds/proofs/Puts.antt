-- Entries put among those of a map, and others removed: their numbers have nodes, and the counts of their paths.
use Rattle.std.proofs.Common.{◌≡◌, ℕ, ◌+◌, ◌<◌, not, List, [], ◌∷◌, ◌++◌, Option, ◌∙◌, arith}
use Rattle.acl_names.specs.Paths.{PathOf}
use Rattle.path_map.specs.Entries.{IsInOrder, found}
use Rattle.path_map.specs.Merged.{has, put_all, without_all}
use Rattle.path_map.proofs.Merges.{in_order-put_all}
use Rattle.kinds.specs.Kinds.{KindsOf, count_at, Releases}
use Rattle.kinds.specs.Numbered.{Numbers, entries_by, paths_with, AreUsed, AreSound}
use Rattle.kinds.specs.Inner.{AddsAll, ReleasesAll, ReleasesRun, ReleasesBut, found_if, found_with}
use Rattle.kinds.proofs.EntriesBy.{entries_extend, used_extend}
use Rattle.kinds.proofs.Counts.{count_put_all, entries_put_all, used_put_all, kept_entries, kept_used}
use Rattle.kinds.proofs.Chosen.{in_order-filter, entries_filter, used_filter}
use Rattle.kinds.proofs.Gone.{count_without_all}

pub found_more : (n : ℕ) (os : List (Option ℕ)) (o : Option ℕ) → found_with n (os ++ o ∷ []) ≡ found_with n os + found_if n o
found_more n [] o = omega arith
found_more n (x ∷ os) o = let h = found_more n os o in omega (arith, h)

module _ {N : Type 0} where
  -- one path more has its number no longer
  pub releases_more : (k0 k k1 : KindsOf N) (os : List (Option ℕ)) (o : Option ℕ) (last pending number count : ℕ) → ReleasesBut k0 os k last pending → ReleasesRun k last pending o k1 number count
      → ReleasesBut k0 (os ++ o ∷ []) k1 number count
  releases_more k0 k k1 os o last pending number count h run = record {
    nodes = λ n lt. let a = run.fewer n in let some : 0 < count_at k n = omega (arith, a, lt) in run.nodes n lt ∙ h.nodes n some;
    counts = λ n.
        let a = run.counts n in
        let b = h.counts n in
        let l = found_more n os o in
        omega (arith, a, b, l);
  }

  pub releases_all : (k0 k k1 : KindsOf N) (os : List (Option ℕ)) (last pending : ℕ) → ReleasesBut k0 os k last pending → Releases k last pending k1 → ReleasesAll k0 os k1
  releases_all k0 k k1 os last pending h releases = record {
    nodes = λ n lt. let a = releases.counts n in let some : 0 < count_at k n = omega (arith, a, lt) in releases.nodes n lt ∙ h.nodes n some;
    counts = λ n.
        let a = releases.counts n in
        let b = h.counts n in
        omega (arith, a, b);
  }

module _ {N : Type 0} (k0 k1 k2 : KindsOf N) (ns entries : Numbers) (puts : List (PathOf × N)) (sound : AreSound k0 ns) (order : IsInOrder entries)
    (adds : AddsAll k0 puts k1 entries) (releases : ReleasesAll k1 (found entries ns) k2) where
  counted : (n : ℕ) → count_at k2 n ≡ paths_with n (put_all entries ns)
  counted n =
      let a = releases.counts n in
      let b = adds.counts n in
      let c = sound.counted n in
      let d = count_put_all n entries ns order sound.order in
      omega (arith, a, b, c, d)

  used_between : AreUsed k1 (put_all entries ns)
  used_between = used_put_all k1 entries ns adds.used (used_extend k0 k1 ns adds.extends sound.used)

  pub sound_put : AreSound k2 (put_all entries ns)
  sound_put = record {
    order = in_order-put_all entries ns sound.order;
    used = kept_used k1 k2 releases.nodes (put_all entries ns) counted used_between;
    counted = counted;
  }

  pub entries_put : entries_by k2 (put_all entries ns) ≡ put_all puts (entries_by k0 ns)
  entries_put =
      kept_entries k1 k2 releases.nodes (put_all entries ns) counted
      ∙ entries_put_all k1 entries ns adds.used (used_extend k0 k1 ns adds.extends sound.used)
      ∙ (λ i. put_all (adds.made i) (entries_extend k0 k1 ns adds.extends sound.used i))

module _ {N W : Type 0} (k0 k1 : KindsOf N) (ns : Numbers) (gone : List (PathOf × W)) (sound : AreSound k0 ns) (order : IsInOrder gone) (releases : ReleasesAll k0 (found gone ns) k1) where
  left : (n : ℕ) → count_at k1 n ≡ paths_with n (without_all gone ns)
  left n =
      let a = releases.counts n in
      let b = sound.counted n in
      let c = count_without_all n gone ns order sound.order in
      omega (arith, a, b, c)

  pub sound_without : AreSound k1 (without_all gone ns)
  sound_without = record {
    order = in_order-filter (λ q. not (has q gone)) ns sound.order;
    used = kept_used k0 k1 releases.nodes (without_all gone ns) left (used_filter k0 (λ q. not (has q gone)) ns sound.used);
    counted = left;
  }

  pub entries_without : entries_by k1 (without_all gone ns) ≡ without_all gone (entries_by k0 ns)
  entries_without = kept_entries k0 k1 releases.nodes (without_all gone ns) left ∙ entries_filter k0 (λ q. not (has q gone)) ns sound.used
