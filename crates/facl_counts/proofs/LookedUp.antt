-- Paths that are looked up one by one: the first that is missing.
use Rattle.std.proofs.Common.{◌≡◌, ◌<◌, ◌+◌, ℕ, Bool, true, false, cond, List, [], ◌∷◌, ◌++◌, drop, get_or, is_some, length, take, Some, None, refl, sym, ap, subst, ◌∙◌}
use Rattle.std.specs.FinMap.{find}
use Rattle.std.proofs.lemmas.List.{drop_more, take-append-drop, take_more}
use Rattle.acl_names.specs.Paths.{path_cmp, PathOf}
use Rattle.acl_tree.specs.Files.{Files}
use Rattle.acl_tree.specs.Operands.{first_missing, IsMissing}
use Rattle.acl_tree.specs.declared.fault.TreeFault.{TreeFault}

missing_after : (xs ys : List PathOf) (t : Files) → first_missing xs t ≡ None → first_missing (xs ++ ys) t ≡ first_missing ys t
missing_after [] ys t h = refl
missing_after (x ∷ xs) ys t h = by (is_some (find path_cmp x t)) h (missing_after xs ys t)
  where
    by : (b : Bool) → cond b (first_missing xs t) (Some x) ≡ None → (first_missing xs t ≡ None → first_missing (xs ++ ys) t ≡ first_missing ys t)
        → cond b (first_missing (xs ++ ys) t) (Some x) ≡ first_missing ys t
    by true h more = more h
    by false h more = cc

module _ (ps : List PathOf) (i : ℕ) (p : PathOf) (t : Files) (lt : i < length ps) (is : p ≡ get_or ps i p) (before : first_missing (take i ps) t ≡ None) where
  -- one more path is there
  pub none_missing : first_missing (p ∷ []) t ≡ None → first_missing (take (i + 1) ps) t ≡ None
  none_missing here =
      ap (λ (qs : List PathOf). first_missing qs t) (take_more ps i p lt ∙ ap (λ q. take i ps ++ q ∷ []) (sym is))
      ∙ missing_after (take i ps) (p ∷ []) t before
      ∙ here

  first_of : (fault : TreeFault) (rest : List PathOf) → IsMissing fault (first_missing (p ∷ []) t) → IsMissing fault (first_missing (p ∷ rest) t)
  first_of fault rest h = by (is_some (find path_cmp p t)) h
    where
      by : (b : Bool) → IsMissing fault (cond b None (Some p)) → IsMissing fault (cond b (first_missing rest t) (Some p))
      by true h = cc
      by false h = h

  -- the next path is missing
  pub is_missing : (fault : TreeFault) → IsMissing fault (first_missing (p ∷ []) t) → IsMissing fault (first_missing ps t)
  is_missing fault h =
      let rest = drop (i + 1) ps in
      let parts : take i ps ++ p ∷ rest ≡ ps = ap (λ (qs : List PathOf). take i ps ++ qs) (ap (λ q. q ∷ rest) is ∙ sym (drop_more ps i p lt)) ∙ take-append-drop i ps in
      subst (λ (qs : List PathOf). IsMissing fault (first_missing qs t)) parts
      (subst (λ o. IsMissing fault o) (sym (missing_after (take i ps) (p ∷ rest) t before)) (first_of fault rest h))
