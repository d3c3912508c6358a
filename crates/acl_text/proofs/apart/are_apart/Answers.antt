use Rattle.std.proofs.Common.{◌≡◌, refl, subst, sym, ap, rules}
use Rattle.std.specs.Prelude.{map}
use Rattle.std.proofs.lemmas.Map.Keys.{IsDistinct-from_sorted}
use Rattle.std.specs.List.{IsDistinct}
use Rattle.std.specs.List.Sorted.{IsPermutation, IsSortedBy, IsStrictlySortedBy}
use Rattle.std.specs.Ordering.{is_lt}
use Rattle.std.proofs.lemmas.Fn.{always_returns_same}
use Rattle.std.proofs.lemmas.List.MinMax.{ranks_by}
use Rattle.acl_names.specs.Paths.{path_cmp}
use Rattle.acl_names.proofs.PathOrder.{path_total}
use Rattle.acl_text.specs.Records.{same_path}
use Rattle.acl_text.proofs.ApartPaths.{apart_in_order, sorted_rise_again}
use Rattle.acl_text.proofs.apart.are_apart.Goals as goal

pub returns : goal.returns
returns c =
    let order = subst (λ ys. IsPermutation c.in_ok-paths.paths.items ys) (sym c.deref-2.ensures.value) c.sort_by.ensures.permutation in
    let sorted = c.in_ok-sort_by.ensures.sorted (λ x y. is_lt (path_cmp x.now y.now)) (ranks_by path_total (λ p. p.now))
    (always_returns_same _ (λ a r. is_lt r ≡ is_lt (path_cmp a.0.now.now a.1.0.now.now)) c.sort_by.new.compare
    (λ a r f' k. let w : (r ≡ path_cmp a.0.now.now a.1.0.now.now) × (f' ≡ c.sort_by.new.compare) = search rules in (ap is_lt w.0, w.1))) in (
      λ rising. subst (IsDistinct same_path) c.in_ok-paths.ensures (apart_in_order (λ p. p.now) c.in_ok-paths.paths.items c.deref-2.result.now order (c.rise-2.ensures.0 rising)),
      λ apart. c.rise-2.ensures.1
          (sorted_rise_again (λ p. p.now) c.in_ok-paths.paths.items c.deref-2.result.now order
          (subst (IsSortedBy (λ x y. is_lt (path_cmp x.now y.now))) (sym c.deref-2.ensures.value) sorted) (subst (IsDistinct same_path) (sym c.in_ok-paths.ensures) apart)),
    )

pub returns-then-rise : goal.returns-then-rise
returns-then-rise c =
    let rising = subst (λ xs. IsStrictlySortedBy path_cmp (map (λ p. p.now) xs)) c.deref.ensures.value (c.rise.ensures.0 c.if-rise.true) in
    (λ _. subst (IsDistinct same_path) c.in_ok-paths.ensures (IsDistinct-from_sorted path_cmp (map (λ p. p.now) c.in_ok-paths.paths.items) rising), λ _. refl)
