-- Entries after a path, while others are put among them.
use Rattle.std.proofs.Common.{◌≡◌, List, [], ◌∷◌, Less, Equal, Greater}
use Rattle.std.specs.FinMap.{put, is_sorted}
use Rattle.std.specs.FinMap.Entries.{by_order, below_all}
use Rattle.std.proofs.lemmas.Bool.{and_parts}
use Rattle.acl_names.specs.Paths.{PathOf, path_cmp}
use Rattle.path_map.specs.Entries.{IsInOrder}
use Rattle.path_map.specs.Inner.{After}
use Rattle.path_map.specs.Merged.{put_all}
use Rattle.acl_names.proofs.PathOrder.{path_total}

module _ {V : Type 0} where
  after_put : (q k : PathOf) (v : V) (es : List (PathOf × V)) → path_cmp q k ≡ Less → After q es → After q (put path_cmp k v es)
  after_put q k v [] lt h = (lt, tt)
  after_put q k v (e ∷ es) lt h =
      elim (path_cmp k e.0) as (λ o. After q (by_order o ((k, v) ∷ e ∷ es) ((e.0, v) ∷ es) (e ∷ put path_cmp k v es))) [
        | Less ↦ (lt, h)
        | Equal ↦ h
        | Greater ↦ (h.0, after_put q k v es lt h.1)
      ]

  pub after_put_all : (q : PathOf) (ps es : List (PathOf × V)) → After q ps → After q es → After q (put_all ps es)
  after_put_all q [] es a h = h
  after_put_all q (p ∷ ps) es a h = after_put_all q ps (put path_cmp p.0 p.1 es) a.1 (after_put q p.0 p.1 es a.0 h)

  pub after_later : (p q : PathOf) (es : List (PathOf × V)) → path_cmp p q ≡ Less → After q es → After p es
  after_later p q [] lt h = tt
  after_later p q (e ∷ es) lt h = (path_total.trans p q e.0 lt h.0, after_later p q es lt h.1)

  pub rest_in_order : (e : PathOf × V) (es : List (PathOf × V)) → IsInOrder (e ∷ es) → IsInOrder es
  rest_in_order e es h = (and_parts (below_all path_cmp e.0 es) (is_sorted path_cmp es) h).1
