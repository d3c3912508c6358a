-- Paths of a map with other numbers, and others gone: which nodes and how many paths the numbers have.
use Rattle.std.proofs.Common.{◌≡◌, ℕ, ◌<◌, Bool, true, false, not, cond, List, [], ◌∷◌, ◌++◌, map, Option, refl, sym, ap, ◌∙◌, arith, nat_lt, ltb-true, ltb-false}
use Rattle.std.specs.Prelude.{◌==◌}
use Rattle.std.specs.Borrow.{Bor}
use Rattle.std.specs.Option.{option_map_or}
use Rattle.std.proofs.lemmas.List.Folds.{list_any-append}
use Rattle.acl_names.specs.Paths.{PathOf}
use Rattle.path_map.specs.Entries.{IsInOrder, seen, found}
use Rattle.path_map.specs.Merged.{has, without_all, merged}
use Rattle.path_map.proofs.Merges.{in_order-put_all}
use Rattle.kinds.specs.Kinds.{KindsOf, node_at, count_at, IsNode}
use Rattle.kinds.specs.Numbered.{Numbers, one_if, paths_with, AreUsed, AreSound}
use Rattle.kinds.specs.Inner.{ReleasesAll, found_with}
use Rattle.kinds.specs.Counted.{CountsAll}
use Rattle.kinds.specs.Tagged.{is_one, tags_at, numbers_found, KeepsTags}
use Rattle.kinds.specs.Renumbered.{IsPut}
use Rattle.kinds.proofs.EntriesBy.{all_weaker}
use Rattle.kinds.proofs.Counts.{count_put_all, used_put_all, kept_used}
use Rattle.kinds.proofs.Chosen.{in_order-filter, used_filter}
use Rattle.kinds.proofs.Gone.{count_without_all}
use Rattle.kinds.proofs.ByNumber.{used_number}
use Rattle.kinds.proofs.GivenNodes.{used_some, used_none}
use Rattle.kinds.proofs.SameNodes.{neither}

module _ {N : Type 0} (k0 k k1 k2 k3 : KindsOf N) (ns puts gone : Numbers) (sound : AreSound k0 ns) (there : (n : ℕ) → IsNode k0 n → IsNode k n)
    (same : (n : ℕ) → count_at k n ≡ count_at k0 n) (used : AreUsed k puts) (order : IsInOrder puts) (rising : IsInOrder gone)
    (all : CountsAll k puts k1) (left : ReleasesAll k1 (found gone ns) k2) (rest : ReleasesAll k2 (found puts (without_all gone ns)) k3) where
  left_order : IsInOrder (without_all gone ns)
  left_order = in_order-filter (λ q. not (has q gone)) ns sound.order

  counted : (n : ℕ) → count_at k3 n ≡ paths_with n (merged puts gone ns)
  counted n =
      let a = rest.counts n in
      let b = left.counts n in
      let c = all.counts n in
      let d = same n in
      let e = sound.counted n in
      let f = count_without_all n gone ns rising sound.order in
      let g = count_put_all n puts (without_all gone ns) order left_order in
      omega (arith, a, b, c, d, e, f, g)

  kept : (n : ℕ) → 0 < count_at k3 n → node_at k3 n ≡ node_at k n
  kept n lt =
      let a = rest.counts n in
      let some : 0 < count_at k2 n = omega (arith, a, lt) in
      rest.nodes n lt ∙ left.nodes n some ∙ all.nodes n

  left_used : AreUsed k (without_all gone ns)
  left_used = used_filter k (λ q. not (has q gone)) ns (all_weaker (λ e. IsNode k0 e.1) (λ e. IsNode k e.1) (λ e h. there e.1 h) ns sound.used)

  pub sound_counted : AreSound k3 (merged puts gone ns)
  sound_counted = record {
    order = in_order-put_all puts (without_all gone ns) left_order;
    used = kept_used k k3 kept (merged puts gone ns) counted (used_put_all k puts (without_all gone ns) used left_used);
    counted = counted;
  }

  pub put_counted : IsPut (k0, ns) k puts gone (k3, merged puts gone ns)
  put_counted = record {
    numbers = refl;
    nodes = kept;
    sound = sound_counted;
  }

  -- a number that no path got or lost has as many paths as before
  pub same_count : (n : ℕ) → paths_with n puts ≡ 0 → found_with n (found gone ns) ≡ 0 → found_with n (found puts (without_all gone ns)) ≡ 0 → count_at k3 n ≡ count_at k0 n
  same_count n none none_gone none_put =
      let a = rest.counts n in
      let b = left.counts n in
      let c = all.counts n in
      let d = same n in
      omega (arith, a, b, c, d, none, none_gone, none_put)

none_with : (n : ℕ) (es : List (Bor PathOf × ℕ)) → is_one n (map (λ e. e.1) es) ≡ false → paths_with n (map seen es) ≡ 0
none_with n [] h = refl
none_with n (e ∷ es) h =
    let both = neither (e.1 == n) (is_one n (map (λ e. e.1) es)) h in
    let one : one_if n e.1 ≡ 0 = ap (λ b. cond b 1 0) both.0 in
    let more = none_with n es both.1 in
    omega (arith, one, more)

-- a number is none of some numbers, nor of others after them
none_of_two : (n : ℕ) (first rest all : List ℕ) → all ≡ first ++ rest → is_one n all ≡ false → (is_one n first ≡ false) × (is_one n rest ≡ false)
none_of_two n first rest all is h = neither (is_one n first) (is_one n rest) (sym (list_any-append (λ m. m == n) first rest) ∙ ap (is_one n) (sym is) ∙ h)

-- numbers of paths that are put, others, and those that paths had
pub none_of_all : (n : ℕ) (es : List (Bor PathOf × ℕ)) (others : List ℕ) (left rest : List (Option ℕ)) (first wide second all : List ℕ)
    → first ≡ map (λ e. e.1) es → wide ≡ first ++ others → second ≡ wide ++ numbers_found left → all ≡ second ++ numbers_found rest → is_one n all ≡ false
    → (paths_with n (map seen es) ≡ 0) × ((is_one n others ≡ false) × ((is_one n (numbers_found left) ≡ false) × (is_one n (numbers_found rest) ≡ false)))
none_of_all n es others left rest first wide second all is_first is_wide is_second is_all h =
    let last = none_of_two n second (numbers_found rest) all is_all h in
    let before = none_of_two n wide (numbers_found left) second is_second last.0 in
    let own = none_of_two n first others wide is_wide before.0 in
    (none_with n es (ap (is_one n) (sym is_first) ∙ own.0), (own.1, (before.1, last.1)))

pub there_kept : {N : Type 0} (tags_of : N → List ℕ) (others : List ℕ) (k0 k : KindsOf N) → KeepsTags tags_of others k0 k → (n : ℕ) → IsNode k0 n → IsNode k n
there_kept tags_of others k0 k keeps n is = let y = keeps n is.0 is.1 in (y.0, y.1.0)

module _ {N : Type 0} (tags_of : N → List ℕ) (others : List ℕ) (k0 k k3 : KindsOf N) (ns : Numbers) (sound : AreSound k0 ns) (keeps : KeepsTags tags_of others k0 k)
    (nodes : (n : ℕ) → 0 < count_at k3 n → node_at k3 n ≡ node_at k n) where
  -- where the number of paths with a number is the same as before, its node has the same tags unless the number is one of `others`
  pub tags_kept : (n : ℕ) → is_one n others ≡ false → count_at k3 n ≡ count_at k0 n → tags_at tags_of k3 n ≡ tags_at tags_of k0 n
  tags_kept n out same = by (nat_lt 0 (count_at k0 n)) refl
    where
      by : (b : Bool) → nat_lt 0 (count_at k0 n) ≡ b → tags_at tags_of k3 n ≡ tags_at tags_of k0 n
      by true is =
          let some = ltb-true _ _ is in
          let some3 : 0 < count_at k3 n = omega (arith, some, same) in
          let counts = sound.counted n in
          let x = used_number k0 ns n sound.used (omega (arith, some, counts)) in
          let y = keeps n x.0 x.1 in
          ap (λ o. option_map_or tags_of o []) (used_some k3 n some3 ∙ nodes n some3 ∙ y.1.0)
          ∙ y.1.1 out
          ∙ sym (ap (λ o. option_map_or tags_of o []) (used_some k0 n some ∙ x.1))
      by false is =
          let ge = ltb-false _ _ is in
          ap (λ o. option_map_or tags_of o []) (used_none k3 n (omega (arith, ge, same)) ∙ sym (used_none k0 n (omega (arith, ge))))
