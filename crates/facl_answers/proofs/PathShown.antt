-- The path of a file as it is printed, found by the path.
use Rattle.std.proofs.Common.{◌≡◌, ℕ, Bool, true, false, cond, List, [], ◌∷◌, map, filter, Option, Some, None, is_some, Ordering, Less, Equal, Greater, refl, sym, ap, ◌∙◌}
use Rattle.std.specs.Prelude.{option_map, slice_get}
use Rattle.std.specs.Ordering.{is_eq, eq_by_cmp, ordering_reverse}
use Rattle.std.specs.FinMap.{find}
use Rattle.acl_names.specs.Paths.{PathOf, path_cmp}
use Rattle.acl_names.proofs.PathOrder.{path_total}
use Rattle.acl_names.proofs.Basics.{or_false}
use Rattle.acl_tree.specs.Files.{Files}
use Rattle.acl_tree.specs.Found.{FoundFile, found_in, found_file, files_found}
use Rattle.acl_tree.specs.Operands.{is_file}
use Rattle.path_map.specs.Below.{holds_below}
use Rattle.facl_output.specs.Listings.{path_shown}
use Rattle.facl_answers.specs.PathTexts.{text_in_tree}

same_either : (o : Ordering) → is_eq (ordering_reverse o) ≡ is_eq o
same_either Less = refl
same_either Equal = refl
same_either Greater = refl

-- whether a file is that of the one path
is_it : (p q : PathOf) → is_file false (p ∷ []) q ≡ is_eq (path_cmp p q)
is_it p q = or_false (eq_by_cmp path_cmp q p) ∙ ap is_eq (path_total.antisymm q p) ∙ same_either (path_cmp p q)

abbrev shown : FoundFile → PathOf × List ℕ
shown file = (file.path, path_shown file)

abbrev first_text : List FoundFile → Option (List ℕ)
first_text [] = None
first_text (file ∷ files) = Some (path_shown file)

module _ (t : Files) (p : PathOf) where
  first_is : (es : Files) → first_text (found_in t (filter (λ e. is_file false (p ∷ []) e.0) es)) ≡ find path_cmp p (map shown (found_in t es))
  first_is [] = refl
  first_is (e ∷ es) = ap
      (λ b. first_text (found_in t (cond b (e ∷ filter (λ e. is_file false (p ∷ []) e.0) es) (filter (λ e. is_file false (p ∷ []) e.0) es)))) (is_it p e.0) ∙ by (is_eq (path_cmp p e.0)) (first_is es)
    where
      by : (b : Bool) → first_text (found_in t (filter (λ e. is_file false (p ∷ []) e.0) es)) ≡ find path_cmp p (map shown (found_in t es))
          → first_text (found_in t (cond b (e ∷ filter (λ e. is_file false (p ∷ []) e.0) es) (filter (λ e. is_file false (p ∷ []) e.0) es)))
          ≡ cond b (Some (path_shown (found_file (holds_below t e.0) e))) (find path_cmp p (map shown (found_in t es)))
      by true more = refl
      by false more = more

  head_text : (files : List FoundFile) → option_map path_shown (slice_get files 0) ≡ first_text files
  head_text [] = refl
  head_text (file ∷ files) = refl

  pub text_by : (files : List FoundFile) (first : Option FoundFile) → first ≡ slice_get files 0 → files ≡ files_found false (p ∷ []) t → option_map path_shown first ≡ text_in_tree t p
  text_by files first is all = ap (option_map path_shown) is ∙ head_text files ∙ ap first_text all ∙ first_is t

  none_meant : (es : Files) → find path_cmp p es ≡ None → filter (λ e. is_file false (p ∷ []) e.0) es ≡ []
  none_meant [] h = refl
  none_meant (e ∷ es) h = ap (λ b. cond b (e ∷ filter (λ e. is_file false (p ∷ []) e.0) es) (filter (λ e. is_file false (p ∷ []) e.0) es)) (is_it p e.0) ∙ by (is_eq (path_cmp p e.0)) h (none_meant es)
    where
      by : (b : Bool) → cond b (Some e.1) (find path_cmp p es) ≡ None → (find path_cmp p es ≡ None → filter (λ e. is_file false (p ∷ []) e.0) es ≡ [])
          → cond b (e ∷ filter (λ e. is_file false (p ∷ []) e.0) es) (filter (λ e. is_file false (p ∷ []) e.0) es) ≡ []
      by true h more = absurd (cc h)
      by false h more = more h

  some_or_none : {A : Type 0} (o : Option A) → is_some o ≡ false → o ≡ None
  some_or_none None h = refl
  some_or_none (Some x) h = absurd (cc h)

  -- there is no file of a path that is not recorded
  pub none_found : is_some (find path_cmp p t) ≡ false → [] ≡ files_found false (p ∷ []) t
  none_found none = sym (ap (found_in t) (none_meant t (some_or_none (find path_cmp p t) none)))
