-- The files that are printed for some paths: the files of these, and of all recorded directories above them.
use Rattle.std.proofs.Common.{◌≡◌, Bool, true, false, cond, ◌||◌, ◌&&◌, List, [], ◌∷◌, ◌++◌, append_assoc, map, filter, Ordering, Less, Equal, Greater, Some, is_some, refl, sym, ap, ◌∙◌}
use Rattle.std.specs.List.{list_any}
use Rattle.std.specs.Ordering.{is_eq, eq_by_cmp, nat_cmp, ordering_then}
use Rattle.std.specs.Cmp.Lexicographic.{slice_cmp}
use Rattle.std.specs.FinMap.{find}
use Rattle.std.proofs.lemmas.Cmp.{tied_itself}
use Rattle.std.proofs.lemmas.List.Folds.{list_any-append}
use Rattle.acl_names.specs.Paths.{path_cmp, PathOf}
use Rattle.acl_names.proofs.PathOrder.{path_total, exact_paths}
use Rattle.acl_edit.specs.declared.node.Node.{Node}
use Rattle.acl_names.specs.Below.{is_above, encloses}
use Rattle.acl_names.proofs.Basics.{is_equal, or_second, or_false, and_false, and_true}
use Rattle.acl_tree.specs.Walks.{ancestors}
use Rattle.acl_tree.specs.Files.{Files}
use Rattle.acl_tree.specs.Found.{found_in, files_found}
use Rattle.acl_tree.specs.Operands.{is_file, first_missing}
use Rattle.facl_answers.specs.Inner.{ways, asked_paths}
use Rattle.facl_answers.specs.WhyText.{is_asked, files_asked}

abbrev same : PathOf → PathOf → Bool
same p q = eq_by_cmp path_cmp p q

-- the path is recorded
abbrev among : PathOf → Files → Bool
among q t = list_any (λ e. same q e.0) t

-- equal paths are one path
pub one_path : (p q : PathOf) → same p q ≡ true → p ≡ q
one_path p q h = exact_paths p q (is_equal (path_cmp p q) h)

same_itself : (p : PathOf) → same p p ≡ true
same_itself p = ap is_eq (tied_itself path_total p)

-- a path is within another as one that is below it, or as the same
pub within_is : (q p : PathOf) → encloses q p ≡ (is_above q p || same q p)
unfolding path_cmp
within_is [] [] = refl
within_is [] (y ∷ p) = refl
within_is (x ∷ q) [] = refl
within_is (x ∷ q) (y ∷ p) = by (slice_cmp nat_cmp x y) (within_is q p)
  where
    by : (o : Ordering) → encloses q p ≡ (is_above q p || is_eq (slice_cmp (slice_cmp nat_cmp) q p))
        → (is_eq o && encloses q p) ≡ ((is_eq o && is_above q p) || is_eq (ordering_then o (slice_cmp (slice_cmp nat_cmp) q p)))
    by Less rest = refl
    by Equal rest = rest
    by Greater rest = refl

-- a recorded path is found
recorded : (q : PathOf) (t : Files) → is_some (find path_cmp q t) ≡ among q t
recorded q [] = refl
recorded q (e ∷ t) = by (same q e.0) (recorded q t)
  where
    by : (b : Bool) → is_some (find path_cmp q t) ≡ among q t → is_some (cond b (Some e.1) (find path_cmp q t)) ≡ (b || among q t)
    by true rest = refl
    by false rest = rest

module _ (q p : PathOf) where
  -- those above a path are the recorded ones that it is below
  among_above : (t : Files) → list_any (λ x. same q x) (ancestors p t) ≡ (is_above q p && among q t)
  among_above [] = sym (and_false (is_above q p))
  among_above (e ∷ t) = by (same q e.0) refl (is_above e.0 p) refl (among_above t)
    where
      above : List PathOf
      above = ancestors p t

      by : (a : Bool) → same q e.0 ≡ a → (b : Bool) → is_above e.0 p ≡ b → list_any (λ x. same q x) (ancestors p t) ≡ (is_above q p && among q t)
          → list_any (λ x. same q x) (map (λ (e : PathOf × Node). e.0) (cond b (e ∷ filter (λ (e : PathOf × Node). is_above e.0 p) t) (filter (λ (e : PathOf × Node). is_above e.0 p) t)))
          ≡ (is_above q p && (a || among q t))
      by true is true below rest =
          ap (λ c. c || list_any (λ x. same q x) (ancestors p t)) is
          ∙ sym (ap (λ c. c && true) (ap (λ x. is_above x p) (one_path q e.0 is) ∙ below))
      by true is false below rest =
          rest ∙ ap (λ c. c && among q t) (ap (λ x. is_above x p) (one_path q e.0 is) ∙ below)
          ∙ sym (ap (λ c. c && true) (ap (λ x. is_above x p) (one_path q e.0 is) ∙ below))
      by false is true below rest = ap (λ c. c || list_any (λ x. same q x) (ancestors p t)) is ∙ rest
      by false is false below rest = rest

module _ (t : Files) where
  -- a recorded file is one of all paths exactly if it is one of the paths, or above one
  is_meant : (q : PathOf) → among q t ≡ true → (paths : List PathOf) → is_file false (ways paths t) q ≡ is_asked true paths q
  is_meant q there [] = refl
  is_meant q there (p ∷ paths) =
      list_any-append (λ x. same q x) (ancestors p t ++ p ∷ []) (ways paths t)
      ∙ (λ i. one i || is_meant q there paths i)
    where
      one : list_any (λ x. same q x) (ancestors p t ++ p ∷ []) ≡ encloses q p
      one =
          list_any-append (λ x. same q x) (ancestors p t) (p ∷ [])
          ∙ (λ i. (among_above q p t ∙ ap (λ b. is_above q p && b) there ∙ and_true (is_above q p)) i || or_false (same q p) i)
          ∙ sym (within_is q p)

  meant : (paths : List PathOf) (es : Files) → ((q : PathOf) → among q es ≡ true → among q t ≡ true)
      → filter (λ e. is_file false (ways paths t) e.0) es ≡ filter (λ e. is_asked true paths e.0) es
  meant paths [] there = refl
  meant paths (e ∷ es) there =
      let here = is_meant e.0 (there e.0 (ap (λ b. b || among e.0 es) (same_itself e.0))) paths in
      let rest = meant paths es (λ q h. there q (or_second (same q e.0) (among q es) h)) in
      (λ i. cond (here i) (e ∷ rest i) (rest i))

  -- no path is missing for one above it
  none_missing : (p : PathOf) (rest : List PathOf) (es : Files) → ((q : PathOf) → among q es ≡ true → among q t ≡ true) → first_missing (ancestors p es ++ rest) t ≡ first_missing rest t
  none_missing p rest [] there = refl
  none_missing p rest (e ∷ es) there = by (is_above e.0 p) (none_missing p rest es (λ q h. there q (or_second (same q e.0) (among q es) h)))
    where
      found : is_some (find path_cmp e.0 t) ≡ true
      found = recorded e.0 t ∙ there e.0 (ap (λ b. b || among e.0 es) (same_itself e.0))

      by : (b : Bool) → first_missing (ancestors p es ++ rest) t ≡ first_missing rest t
          → first_missing (map (λ (e : PathOf × Node). e.0)
          (cond b (e ∷ filter (λ (e : PathOf × Node). is_above e.0 p) es) (filter (λ (e : PathOf × Node). is_above e.0 p) es)) ++ rest) t ≡ first_missing rest t
      by true more = ap (λ b. cond b (first_missing (ancestors p es ++ rest) t) (Some e.0)) found ∙ more
      by false more = more

  ways_missing : (paths : List PathOf) → first_missing (ways paths t) t ≡ first_missing paths t
  ways_missing [] = refl
  ways_missing (p ∷ paths) =
      ap (λ l. first_missing l t) (append_assoc (ancestors p t) (p ∷ []) (ways paths t))
      ∙ none_missing p (p ∷ ways paths t) t (λ q h. h)
      ∙ ap (λ o. cond (is_some (find path_cmp p t)) o (Some p)) (ways_missing paths)

  -- the files that are printed
  pub all_asked : (along : Bool) (paths : List PathOf) → files_found false (asked_paths along paths t) t ≡ files_asked along paths t
  all_asked true paths = ap (found_in t) (meant paths t (λ q h. h))
  all_asked false paths = refl

  -- the first path that is missing
  pub first_asked : (along : Bool) (paths : List PathOf) → first_missing (asked_paths along paths t) t ≡ first_missing paths t
  first_asked true paths = ways_missing paths
  first_asked false paths = refl
