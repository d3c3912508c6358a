-- Numbers given in turn: the nodes that they have, and the counts of their paths.
use Rattle.std.proofs.Common.{◌≡◌, ℕ, List, [], ◌∷◌, ◌++◌, Some, sym, ap, subst, ◌∙◌, arith}
use Rattle.std.specs.FinMap.{is_sorted}
use Rattle.acl_names.specs.Paths.{path_cmp, PathOf}
use Rattle.acl_names.proofs.Basics.{all_end}
use Rattle.path_map.specs.Entries.{IsInOrder}
use Rattle.kinds.specs.Kinds.{KindsOf, node_at, IsNode, Adds, Grants}
use Rattle.kinds.specs.Numbered.{Numbers, entries_by, AreSound}
use Rattle.kinds.specs.Inner.{Extends, HasNumber, CountsRun, GivesNumber, AddsBut, AddsAll}
use Rattle.kinds.proofs.EntriesBy.{entry_first, entries_append, entries_extend, used_extend, adds_extends, adds_here, paths_with-append}
use Rattle.kinds.proofs.Chosen.{sorted_same}

module _ {N : Type 0} where
  pub added : (k k1 : KindsOf N) (x : N) (at : ℕ) → Adds k x at k1 → HasNumber k x at k1
  added k k1 x at adds = record {
    extends = adds_extends k k1 x at adds;
    counts = adds.counts;
    here = adds_here k k1 x at adds;
  }

  pub adds_more : (k0 k k1 k2 : KindsOf N) (puts : List (PathOf × N)) (entries : Numbers) (p : PathOf) (x : N) (at last pending count : ℕ)
      → AddsBut k0 puts k entries last pending → HasNumber k x at k1 → CountsRun k1 last pending at k2 count
      → AddsBut k0 (puts ++ (p, x) ∷ []) k2 (entries ++ (p, at) ∷ []) at count
  adds_more k0 k k1 k2 puts entries p x at last pending count h one run =
      let ext : Extends k k2 = λ n y is. run.nodes n ∙ one.extends n y is in
      let here : node_at k2 at ≡ Some x = run.nodes at ∙ one.here in
      record {
        extends = λ n y is. ext n y (h.extends n y is);
        counts = λ n.
            let a = run.counts n in
            let b = one.counts n in
            let c = h.counts n in
            let e = paths_with-append n entries ((p, at) ∷ []) in
            omega (arith, a, b, c, e);
        used = all_end (λ e. IsNode k2 e.1) entries (p, at) (used_extend k k2 entries ext h.used) (x, here);
        made =
            entries_append k2 entries ((p, at) ∷ [])
            ∙ (λ i. (entries_extend k k2 entries ext h.used ∙ h.made) i ++ entry_first k2 (p, at) [] x here i);
        there = λ lt. (x, here);
      }

  pub adds_all : (k0 k k1 : KindsOf N) (puts : List (PathOf × N)) (entries : Numbers) (last pending : ℕ) → AddsBut k0 puts k entries last pending
      → Grants k last pending k1 → AddsAll k0 puts k1 entries
  adds_all k0 k k1 puts entries last pending h grants =
      let ext : Extends k k1 = λ n y is. grants.nodes n ∙ is in
      record {
        extends = λ n y is. ext n y (h.extends n y is);
        counts = λ n.
            let a = grants.counts n in
            let c = h.counts n in
            omega (arith, a, c);
        used = used_extend k k1 entries ext h.used;
        made = entries_extend k k1 entries ext h.used ∙ h.made;
      }

module _ {N : Type 0} where
  -- the numbers of what is put are in its order
  pub adds_order : (k0 k1 : KindsOf N) (puts : List (PathOf × N)) (entries : Numbers) → AddsAll k0 puts k1 entries → IsInOrder puts → IsInOrder entries
  adds_order k0 k1 puts entries adds order = sym (sorted_same k1 entries adds.used) ∙ ap (is_sorted path_cmp) adds.made ∙ order

-- ---- one entry more

module _ {N : Type 0} (k0 k k2 : KindsOf N) (entries : Numbers) (p : PathOf) (x : N) (at last pending count : ℕ)
    (h : AddsBut k0 (entries_by k entries) k entries last pending) (gives : GivesNumber k last pending x at k2 count) where
  more : AddsBut k0 (entries_by k entries ++ (p, x) ∷ []) k2 (entries ++ (p, at) ∷ []) at count
  more = adds_more k0 k gives.between k2 (entries_by k entries) entries p x at last pending count h gives.has gives.run

  pub given_entries : entries_by k2 (entries ++ (p, at) ∷ []) ≡ entries_by k entries ++ (p, x) ∷ []
  given_entries = more.made

  pub given_more : AddsBut k0 (entries_by k2 (entries ++ (p, at) ∷ [])) k2 (entries ++ (p, at) ∷ []) at count
  given_more = subst (λ es. AddsBut k0 es k2 (entries ++ (p, at) ∷ []) at count) (sym given_entries) more

  pub given_order : IsInOrder (entries_by k entries ++ (p, x) ∷ []) → IsInOrder (entries ++ (p, at) ∷ [])
  given_order order = sym (sorted_same k2 (entries ++ (p, at) ∷ []) more.used) ∙ ap (is_sorted path_cmp) given_entries ∙ order

-- ---- all entries, of no map before

module _ {N : Type 0} (k k1 : KindsOf N) (entries : Numbers) (last pending : ℕ) (h : AddsBut ([], []) (entries_by k entries) k entries last pending) (grants : Grants k last pending k1) where
  all : AddsAll ([], []) (entries_by k entries) k1 entries
  all = adds_all ([], []) k k1 (entries_by k entries) entries last pending h grants

  pub entries_built : entries_by k1 entries ≡ entries_by k entries
  entries_built = all.made

  pub sound_built : IsInOrder entries → AreSound k1 entries
  sound_built order = record { order = order; used = all.used; counted = λ n. let a = all.counts n in omega (arith, a) }
