-- Entries that are among others: what is found among them is found among all.
use Rattle.std.proofs.Common.{◌≡◌, ℕ, zero, suc, ◌<◌, Bool, true, false, not, cond, List, [], ◌∷◌, ◌++◌, length, drop, Option, Some, None, Ordering, Less}
use Rattle.std.proofs.Common.{Equal, Greater, refl, sym, ap, subst, ◌∙◌, arith}
use Rattle.std.specs.Option.{option_or}
use Rattle.std.specs.Ordering.{is_eq, is_gt}
use Rattle.std.specs.FinMap.{find, is_sorted}
use Rattle.std.specs.FinMap.Entries.{below_all, find-where_key}
use Rattle.std.proofs.lemmas.Bool.{and_parts}
use Rattle.std.proofs.lemmas.Cmp.{tied_itself}
use Rattle.acl_names.specs.Paths.{path_cmp, PathOf}
use Rattle.acl_names.proofs.PathOrder.{path_total, exact_paths}
use Rattle.acl_names.proofs.Basics.{none_is_not_some}
use Rattle.path_map.specs.Entries.{IsInOrder}
use Rattle.path_map.specs.Below.{from}
use Rattle.path_map.specs.Inner.{From, After, AreIn}
use Rattle.path_map.proofs.Places.{below_later, find_none}
use Rattle.path_map.proofs.Chunks.{find-append, in_order-left}
use Rattle.path_map.proofs.Merges.{later_after}
use Rattle.path_map.proofs.Ranges.{in_order-from, from_from}
use Rattle.path_map.proofs.Rows.{in_order-filter}

module _ {V : Type 0} where
  not_among : (p : PathOf) (es : List (PathOf × V)) → After p es → find path_cmp p es ≡ None
  not_among p [] h = refl
  not_among p (e ∷ es) h = ap (λ o. cond (is_eq o) (Some e.1) (find path_cmp p es)) h.0 ∙ not_among p es h.1

  found_after : (e : PathOf × V) (es : List (PathOf × V)) → IsInOrder (e ∷ es) → AreIn es (e ∷ es)
  found_after e es order p v h = by (path_cmp p e.0) refl
    where
      by : (o : Ordering) → path_cmp p e.0 ≡ o → cond (is_eq (path_cmp p e.0)) (Some e.1) (find path_cmp p es) ≡ Some v
      by Less is = ap (λ o. cond (is_eq o) (Some e.1) (find path_cmp p es)) is ∙ h
      by Equal is = absurd (none_is_not_some v (sym (ap (λ q. find path_cmp q es) (exact_paths p e.0 is) ∙ not_among e.0 es (later_after e es order)) ∙ h))
      by Greater is = ap (λ o. cond (is_eq o) (Some e.1) (find path_cmp p es)) is ∙ h

  found_later : (n : ℕ) (es : List (PathOf × V)) → IsInOrder es → AreIn (drop n es) es
  found_later zero es order p v h = h
  found_later (suc n) [] order p v h = h
  found_later (suc n) (e ∷ es) order p v h = found_after e es order p v (found_later n es (and_parts (below_all path_cmp e.0 es) (is_sorted path_cmp es) order).1 p v h)

  pub still_in : (n : ℕ) (es all : List (PathOf × V)) → IsInOrder es → AreIn es all → AreIn (drop n es) all
  still_in n es all order among p v h = among p v (found_later n es order p v h)

  filtered : (b : Bool) (o : Option V) (v : V) → cond b o None ≡ Some v → o ≡ Some v
  filtered true o v h = h
  filtered false o v h = absurd (none_is_not_some v h)

  or_first : (a b : Option V) (v : V) → a ≡ Some v → option_or a b ≡ Some v
  or_first a b v h = ap (λ o. option_or o b) h

  pub front_in : (es rest all : List (PathOf × V)) (p : PathOf) → es ++ rest ≡ from p all → AreIn es all
  front_in es rest all p is q v h =
      filtered (not (is_gt (path_cmp p q))) (find path_cmp q all) v
      (sym (find-where_key path_cmp (λ x. not (is_gt (path_cmp p x))) q (λ x same. ap (λ z. not (is_gt (path_cmp p z))) (sym (exact_paths q x same))) all)
      ∙ ap (find path_cmp q) (sym is) ∙ find-append q es rest ∙ or_first (find path_cmp q es) (find path_cmp q rest) v h)

  pub front_order : (es rest all : List (PathOf × V)) (p : PathOf) → IsInOrder all → es ++ rest ≡ from p all → IsInOrder es
  front_order es rest all p order is = in_order-left es rest (subst (λ l. IsInOrder l) (sym is) (in_order-filter (λ e. not (is_gt (path_cmp p e.0))) all order))

  find_front : (es rest : List (PathOf × V)) (p : PathOf) → IsInOrder (es ++ rest) → From p (es ++ rest) → 0 < length es → find path_cmp p es ≡ find path_cmp p (es ++ rest)
  find_front [] rest p h f some = absurd (omega arith)
  find_front (e ∷ es) rest p h f some = by (path_cmp p e.0) refl
    where
      by : (o : Ordering) → path_cmp p e.0 ≡ o → find path_cmp p (e ∷ es) ≡ find path_cmp p (e ∷ (es ++ rest))
      by Less is =
          find_none p (e ∷ es) (λ j d lt. below_later (e ∷ es) (in_order-left (e ∷ es) rest h) p 0 j d is (omega arith) lt)
          ∙ sym (find_none p (e ∷ (es ++ rest)) (λ j d lt. below_later (e ∷ (es ++ rest)) h p 0 j d is (omega arith) lt))
      by Equal is = ap (λ o. cond (is_eq o) (Some e.1) (find path_cmp p es)) is ∙ ap (λ o. cond (is_eq o) (Some e.1) (find path_cmp p (es ++ rest))) (sym is)
      by Greater is = absurd (f.0 is)

  -- a path is the first of those from it on, or nowhere
  pub front_finds : (es rest all : List (PathOf × V)) (p : PathOf) → IsInOrder all → es ++ rest ≡ from p all → 0 < length es → find path_cmp p es ≡ find path_cmp p all
  front_finds es rest all p order is some =
      find_front es rest p (subst IsInOrder (sym is) (in_order-from p all order)) (subst (λ l. From p l) (sym is) (from_from p all)) some
      ∙ ap (find path_cmp p) is
      ∙ find-where_key path_cmp (λ x. not (is_gt (path_cmp p x))) p (λ x same. ap (λ z. not (is_gt (path_cmp p z))) (sym (exact_paths p x same))) all
      ∙ ap (λ o. cond (not (is_gt o)) (find path_cmp p all) None) (tied_itself path_total p)
