-- What lies at or below files that changed or are gone.
use Rattle.std.proofs.Common.{◌≡◌, ◌+◌, Bool, true, false, not, cond, ◌||◌, List, [], ◌∷◌, ◌++◌, map, is_some, Option, Some, None, refl, sym, ap, subst, ◌∙◌}
use Rattle.std.specs.Prelude.{count_by}
use Rattle.std.specs.List.{list_any, AllByRecursion}
use Rattle.std.specs.FinMap.{find}
use Rattle.std.proofs.lemmas.List.Folds.{list_any-append}
use Rattle.std.proofs.lemmas.List.Sums.{sum_by-cons}
use Rattle.acl_names.specs.Paths.{path_cmp, PathOf}
use Rattle.acl_names.specs.Below.{encloses, is_above}
use Rattle.acl_names.proofs.Below.{within_cases}
use Rattle.acl_edit.specs.declared.node.Node.{Node}
use Rattle.acl_tree.specs.Changed.{gone_between}
use Rattle.acl_tree.specs.Files.{Files}
use Rattle.path_map.specs.Below.{holds_below, lies_in}
use Rattle.path_map.specs.Entries.{IsInOrder}
use Rattle.path_classes.specs.ClassesWithin.{is_inside}
use Rattle.acl_rights.proofs.RowCounts.{any_found, finds}

abbrev pub paths : {A : Type 0} → List (PathOf × A) → List PathOf
paths es = map (λ e. e.0) es

pub lies_at : {A : Type 0} (es : List (PathOf × A)) (p : PathOf) → list_any (λ t. encloses t p) (paths es) ≡ lies_in es p
lies_at [] p = refl
lies_at (e ∷ es) p = ap (λ b. encloses e.0 p || b) (lies_at es p)

-- a test is the same for each of some entries
pub count_same : {A : Type 0} (P : A → Type 0) (f g : A → Bool) → ((x : A) → P x → f x ≡ g x) → (xs : List A) → AllByRecursion P xs → count_by f xs ≡ count_by g xs
count_same P f g h [] all = refl
count_same P f g h (x ∷ xs) all =
    sum_by-cons (λ y. cond (f y) 1 0) x xs
    ∙ (let more = count_same P f g h xs all.1 in λ i. cond (h x all.0 i) 1 0 + more i)
    ∙ sym (sum_by-cons (λ y. cond (g y) 1 0) x xs)

module _ (gs : Files) (p : PathOf) (n : Node) (here : find path_cmp p gs ≡ Some n) where
  -- no file that is there lies at or below one that is gone
  apart_from : (q : PathOf) → holds_below gs q ≡ false → not (is_some (find path_cmp q gs)) ≡ true → (b : Bool) → encloses q p ≡ b → b ≡ false
  apart_from q apart left false is = refl
  apart_from q apart left true is =
      absurd (there (find path_cmp q gs) left (ap (λ r. find path_cmp r gs) (within_cases q p is (any_found (λ e. is_above q e.0) gs p n apart here)) ∙ here))
    where
      there : (o : Option Node) → not (is_some o) ≡ true → o ≡ Some n → ⊥
      there None h k = cc
      there (Some m) h k = cc

  none_gone : (fs : Files) → AllByRecursion (λ e. holds_below gs e.0 ≡ false) (gone_between fs gs) → lies_in (gone_between fs gs) p ≡ false
  none_gone [] h = refl
  none_gone (e ∷ fs) h = by (not (is_some (find path_cmp e.0 gs))) refl h (none_gone fs)
    where
      by : (b : Bool) → not (is_some (find path_cmp e.0 gs)) ≡ b → AllByRecursion (λ e. holds_below gs e.0 ≡ false) (cond b (e ∷ gone_between fs gs) (gone_between fs gs))
          → (AllByRecursion (λ e. holds_below gs e.0 ≡ false) (gone_between fs gs) → lies_in (gone_between fs gs) p ≡ false)
          → lies_in (cond b (e ∷ gone_between fs gs) (gone_between fs gs)) p ≡ false
      by true is h more = λ i. apart_from e.0 h.0 is (encloses e.0 p) refl i || more h.1 i
      by false is h more = more h

-- the files inside those that changed or are gone are inside those that changed
pub inside_changed : (fs gs changed gone : Files) → gone ≡ gone_between fs gs → IsInOrder gs → AllByRecursion (λ e. holds_below gs e.0 ≡ false) gone
    → count_by (λ (e : PathOf × Node). is_inside (paths changed ++ paths gone) e.0) gs ≡ count_by (λ (e : PathOf × Node). lies_in changed e.0) gs
inside_changed fs gs changed gone are order apart =
    count_same (λ (e : PathOf × Node). find path_cmp e.0 gs ≡ Some e.1) (λ e. is_inside (paths changed ++ paths gone) e.0) (λ e. lies_in changed e.0)
    (λ e here.
    list_any-append (λ t. encloses t e.0) (paths changed) (paths gone)
    ∙ (λ i. lies_at changed e.0 i || (lies_at gone e.0 ∙ ap (λ (l : Files). lies_in l e.0) are ∙ none_gone gs e.0 e.1 here fs (subst (AllByRecursion (λ e. holds_below gs e.0 ≡ false)) are apart)) i)
    ∙ or_nothing (lies_in changed e.0))
    gs (finds gs [] gs refl order)
  where
    or_nothing : (b : Bool) → (b || false) ≡ b
    or_nothing true = refl
    or_nothing false = refl
