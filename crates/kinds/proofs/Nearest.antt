-- The nearest entry above a path is that of its number.
use Rattle.std.proofs.Common.{◌≡◌, ℕ, Bool, true, false, cond, List, [], ◌∷◌, Option, Some, None, refl, sym, ap, subst, ◌∙◌}
use Rattle.std.specs.Option.{option_or}
use Rattle.acl_names.specs.Below.{is_above}
use Rattle.acl_names.specs.Paths.{PathOf}
use Rattle.acl_names.proofs.Basics.{some_same}
use Rattle.path_map.specs.Below.{nearest_above}
use Rattle.kinds.specs.Kinds.{KindsOf, node_at, IsNode}
use Rattle.kinds.specs.Numbered.{Numbers, entries_by, AreUsed}
use Rattle.kinds.proofs.EntriesBy.{entry_first}

module _ {N : Type 0} (k : KindsOf N) where
  -- an entry has the node of a number
  abbrev HasNode : Option (PathOf × ℕ) → Option (PathOf × N) → Type 0
  HasNode None o = o ≡ None
  HasNode (Some e) o = (x : N) → node_at k e.1 ≡ Some x → o ≡ Some (e.0, x)

  has_node : (p : PathOf) (ns : Numbers) → AreUsed k ns → HasNode (nearest_above p ns) (nearest_above p (entries_by k ns))
  has_node p [] used = refl
  has_node p (e ∷ ns) used =
      subst (λ (es : List (PathOf × N)). HasNode (nearest_above p (e ∷ ns)) (nearest_above p es)) (sym (entry_first k e ns used.0.0 used.0.1))
      (by (nearest_above p ns) (is_above e.0 p) (has_node p ns used.1))
    where
      by : (u : Option (PathOf × ℕ)) (b : Bool) → HasNode u (nearest_above p (entries_by k ns))
          → HasNode (option_or u (cond b (Some e) None)) (option_or (nearest_above p (entries_by k ns)) (cond b (Some (e.0, used.0.0)) None))
      by (Some f) b more = λ x is. ap (λ o. option_or o (cond b (Some (e.0, used.0.0)) None)) (more x is)
      by None true more = λ x is. ap (λ o. option_or o (Some (e.0, used.0.0))) more ∙ ap (λ y. Some (e.0, y)) (some_same (sym used.0.1 ∙ is))
      by None false more = ap (λ o. option_or o None) more

  pub nearest_used : (p : PathOf) (ns : Numbers) (e : PathOf × ℕ) → AreUsed k ns → nearest_above p ns ≡ Some e → IsNode k e.1
  nearest_used p [] e used h = cc
  nearest_used p (f ∷ ns) e used h = by (nearest_above p ns) refl (is_above f.0 p) h (nearest_used p ns e used.1)
    where
      by : (u : Option (PathOf × ℕ)) → nearest_above p ns ≡ u → (b : Bool) → option_or u (cond b (Some f) None) ≡ Some e → (nearest_above p ns ≡ Some e → IsNode k e.1) → IsNode k e.1
      by (Some g) is b h more = more (is ∙ h)
      by None is true h more = subst (λ (x : PathOf × ℕ). IsNode k x.1) (some_same h) used.0
      by None is false h more = cc

  pub nearest_node : (p : PathOf) (ns : Numbers) (e : PathOf × ℕ) (x : N) → AreUsed k ns → nearest_above p ns ≡ Some e → node_at k e.1 ≡ Some x → nearest_above p (entries_by k ns) ≡ Some (e.0, x)
  nearest_node p ns e x used is at = subst (λ o. HasNode o (nearest_above p (entries_by k ns))) is (has_node p ns used) x at

  pub nearest_none : (p : PathOf) (ns : Numbers) → AreUsed k ns → nearest_above p ns ≡ None → nearest_above p (entries_by k ns) ≡ None
  nearest_none p ns used is = subst (λ o. HasNode o (nearest_above p (entries_by k ns))) is (has_node p ns used)
