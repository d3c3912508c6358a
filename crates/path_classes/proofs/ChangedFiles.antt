-- Where some files changed and others are gone, rows changed at or below these alone.
use Rattle.std.proofs.Common.{◌≡◌, ℕ, Bool, true, false, not, ◌||◌, cond, List, [], ◌∷◌, ◌++◌, map, is_some, Some, None, refl, sym, ap, subst, ◌∙◌}
use Rattle.std.specs.List.{AllByRecursion}
use Rattle.std.specs.Option.{option_or}
use Rattle.std.specs.Ordering.{eq_by_cmp}
use Rattle.std.specs.FinMap.{find, is_sorted}
use Rattle.std.specs.FinMap.Entries.{same_entries}
use Rattle.std.proofs.lemmas.List.Folds.{list_any-append}
use Rattle.acl_names.specs.Paths.{path_cmp, PathOf}
use Rattle.acl_names.specs.Below.{encloses}
use Rattle.acl_names.proofs.PathOrder.{path_total, exact_paths}
use Rattle.acl_names.proofs.Basics.{not_both, to_T, is_equal}
use Rattle.acl_names.proofs.Below.{within_itself}
use Rattle.path_map.specs.Entries.{IsInOrder}
use Rattle.path_map.specs.Merged.{has, without_all}
use Rattle.path_map.proofs.Rows.{find_merged, in_order-filter, sorted_rows}
use Rattle.kinds.specs.Kinds.{node_at}
use Rattle.kinds.specs.Numbered.{Kept, Numbers}
use Rattle.path_classes.specs.declared.label_row.LabelRow.{LabelRow}
use Rattle.path_classes.specs.ClassesWithin.{is_inside, inside, outside, ChangesInside}
use Rattle.path_classes.specs.ClassedRows.{paths_of, PutsRows}
use Rattle.path_classes.specs.Tops.{is_in_two}
use Rattle.path_classes.proofs.PutWithin.{find_outside}

-- a path that is not at or below those of entries has none
none_found : {V : Type 0} (q : PathOf) (es : List (PathOf × V)) → is_inside (paths_of es) q ≡ false → find path_cmp q es ≡ None
none_found q [] h = refl
none_found q (e ∷ es) h = by (encloses e.0 q) refl h (eq_by_cmp path_cmp q e.0) refl (none_found q es)
  where
    by : (b : Bool) → encloses e.0 q ≡ b → (b || is_inside (paths_of es) q) ≡ false → (c : Bool) → eq_by_cmp path_cmp q e.0 ≡ c
        → (is_inside (paths_of es) q ≡ false → find path_cmp q es ≡ None) → cond c (Some e.1) (find path_cmp q es) ≡ None
    by true w h c is more = cc
    by false w h true is more = absurd (not_both (encloses e.0 q) (subst (λ z. encloses e.0 z ≡ true) (sym (exact_paths q e.0 (is_equal (path_cmp q e.0) is))) (within_itself e.0)) w)
    by false w h false is more = more h

-- the order is that of the paths
order_paths : {V : Type 0} (es : List (PathOf × V)) → is_sorted path_cmp (map {B = PathOf × ℕ} (λ p. (p, 0)) (paths_of es)) ≡ is_sorted path_cmp es
order_paths {V = V} es = ap (is_sorted path_cmp) (same es) ∙ sorted_rows (λ (v : V). 0) es
  where
    same : (es : List (PathOf × V)) → map {B = PathOf × ℕ} (λ p. (p, 0)) (paths_of es) ≡ map {B = PathOf × ℕ} (λ (e : PathOf × V). (e.0, 0)) es
    same [] = refl
    same (e ∷ es) = ap (λ l. (e.0, 0) ∷ l) (same es)

order_same : {V W : Type 0} (es : List (PathOf × V)) (fs : List (PathOf × W)) → paths_of es ≡ paths_of fs → IsInOrder fs → IsInOrder es
order_same es fs same order = sym (order_paths es) ∙ ap (λ ps. is_sorted path_cmp (map {B = PathOf × ℕ} (λ p. (p, 0)) ps)) same ∙ order_paths fs ∙ order

neither : (a b : Bool) → (a || b) ≡ false → (a ≡ false) × (b ≡ false)
neither true b h = cc
neither false b h = (refl, h)

module _ {V W : Type 0} (old new : Kept LabelRow) (changed : List (PathOf × V)) (gone : List (PathOf × W)) (tops : List PathOf)
    (covers : (q : PathOf) → is_inside tops q ≡ is_in_two changed gone q) where
  apart : (q : PathOf) → is_inside tops q ≡ false → (is_inside (paths_of changed) q ≡ false) × (is_inside (paths_of gone) q ≡ false)
  apart q out = neither (is_inside (paths_of changed) q) (is_inside (paths_of gone) q) (sym (covers q) ∙ out)

  not_changed : (q : PathOf) → is_inside tops q ≡ false → has q changed ≡ false
  not_changed q out = ap is_some (none_found q changed (apart q out).0)

  not_gone : (q : PathOf) → is_inside tops q ≡ false → has q gone ≡ false
  not_gone q out = ap is_some (none_found q gone (apart q out).1)

  -- paths outside are neither changed nor gone
  kept_outside : (P : PathOf × ℕ → Type 0) (es : Numbers) → AllByRecursion P (without_all changed (without_all gone es)) → AllByRecursion P (outside tops es)
  kept_outside P [] h = tt
  kept_outside P (e ∷ es) h = by (has e.0 gone) refl (has e.0 changed) refl (is_inside tops e.0) refl h (kept_outside P es)
    where
      put_in : (b : Bool) → has e.0 changed ≡ b → AllByRecursion P (without_all changed (e ∷ without_all gone es))
          → AllByRecursion P (cond (not b) (e ∷ without_all changed (without_all gone es)) (without_all changed (without_all gone es)))
      put_in b is h = subst (λ b. AllByRecursion P (cond (not b) (e ∷ without_all changed (without_all gone es)) (without_all changed (without_all gone es)))) is h

      by : (a : Bool) → has e.0 gone ≡ a → (b : Bool) → has e.0 changed ≡ b → (c : Bool) → is_inside tops e.0 ≡ c
          → AllByRecursion P (without_all changed (cond (not a) (e ∷ without_all gone es) (without_all gone es)))
          → (AllByRecursion P (without_all changed (without_all gone es)) → AllByRecursion P (outside tops es))
          → AllByRecursion P (cond (not c) (e ∷ outside tops es) (outside tops es))
      by true is_gone b is c i h more = by_gone c i
        where
          by_gone : (c : Bool) → is_inside tops e.0 ≡ c → AllByRecursion P (cond (not c) (e ∷ outside tops es) (outside tops es))
          by_gone true i = more h
          by_gone false i = absurd (not_both (has e.0 gone) is_gone (not_gone e.0 i))
      by false is_gone true is true i h more = more (put_in true is h)
      by false is_gone true is false i h more = absurd (not_both (has e.0 changed) is (not_changed e.0 i))
      by false is_gone false is true i h more = more (put_in false is h).1
      by false is_gone false is false i h more = let all = put_in false is h in (all.0, more all.1)

  module _ (order_old : IsInOrder old.1) (order_new : IsInOrder new.1) (order : IsInOrder changed) (r : PutsRows old changed gone new) where
    found_outside : (q : PathOf) → is_inside tops q ≡ false → find path_cmp q new.1 ≡ find path_cmp q old.1
    found_outside q out =
        ap (find path_cmp q) r.numbers
        ∙ find_merged q r.puts gone old.1 (order_same r.puts changed r.paths order)
        ∙ ap (λ o. option_or o (cond (has q gone) None (find path_cmp q old.1))) (none_found q r.puts (ap (λ ps. is_inside ps q) r.paths ∙ (apart q out).0))
        ∙ ap (λ b. cond b None (find path_cmp q old.1)) (not_gone q out)

    numbers_outside : outside tops new.1 ≡ outside tops old.1
    numbers_outside =
        same_entries path_cmp path_total exact_paths _ _ (to_T _ (in_order-filter (λ (e : PathOf × ℕ). not (is_inside tops e.0)) new.1 order_new))
        (to_T _ (in_order-filter (λ (e : PathOf × ℕ). not (is_inside tops e.0)) old.1 order_old))
        (λ q. by q (is_inside tops q) refl)
      where
        by : (q : PathOf) (b : Bool) → is_inside tops q ≡ b → find path_cmp q (outside tops new.1) ≡ find path_cmp q (outside tops old.1)
        by q true i = find_outside tops q new.1 order_new true i ∙ sym (find_outside tops q old.1 order_old true i)
        by q false o = find_outside tops q new.1 order_new false o ∙ found_outside q o ∙ sym (find_outside tops q old.1 order_old false o)

    pub changes_inside : ChangesInside old tops new
    changes_inside = record { numbers = numbers_outside; rows = kept_outside (λ e. node_at new.0 e.1 ≡ node_at old.0 e.1) old.1 r.kept }

  -- what lies at or below the tops lies at or below the paths of both
  pub same_inside : (es : Numbers) → inside tops es ≡ inside (paths_of changed ++ paths_of gone) es
  same_inside [] = refl
  same_inside (e ∷ es) =
      λ i. cond ((covers e.0 ∙ sym (list_any-append (λ t. encloses t e.0) (paths_of changed) (paths_of gone))) i) (e ∷ same_inside es i) (same_inside es i)
