-- Files edited, of which those that stay as they are may be left out: what is put among the files of the tree is the same.
use Rattle.std.proofs.Common.{◌≡◌, Bool, true, false, cond, IsTrue, List, [], ◌∷◌, ◌++◌, append_assoc, map, filter, Result, Ok, Less, refl, sym, ap, subst, ◌∙◌}
use Rattle.std.specs.List.{AllByRecursion}
use Rattle.std.specs.FinMap.{put, is_sorted}
use Rattle.std.specs.FinMap.Entries.{by_order, below_all}
use Rattle.std.specs.Ordering.{is_lt}
use Rattle.std.proofs.lemmas.Bool.{and_parts}
use Rattle.std.proofs.lemmas.Cmp.{tied_itself}
use Rattle.acl_names.specs.Paths.{path_cmp, PathOf}
use Rattle.acl_names.proofs.PathOrder.{path_total}
use Rattle.acl_names.proofs.Basics.{both_true}
use Rattle.acl_edit.specs.declared.edit.EditFault.{EditFault}
use Rattle.acl_edit.specs.declared.node.Node.{Node}
use Rattle.path_map.specs.Inner.{After}
use Rattle.path_map.specs.Merged.{put_all}
use Rattle.path_map.proofs.Merges.{put_past, later_after}
use Rattle.path_map.proofs.Rows.{in_order-filter}
use Rattle.acl_tree.specs.Files.{Files}
use Rattle.path_map.specs.Entries.{IsInOrder}
use Rattle.acl_tree.specs.Operands.{edit_files}
use Rattle.acl_tree.specs.Edits.{FileEdit, and_others, edit_each}
use Rattle.acl_tree.specs.Inner.{OneOf, SomeEdited, PutsOrLeaves, ok_or, node_after}

-- ---- one file more

module _ {A : Type 0} (file : A → PathOf × Node) (edit : A → Result Node EditFault) where
  pub left_out : (x : A) (xs : List A) (ks : Files) → edit x ≡ Ok (file x).1 → SomeEdited file edit xs ks → SomeEdited file edit (x ∷ xs) ks
  left_out x xs [] same h = (same, h)
  left_out x xs (k ∷ ks) same h = record { first = false; is = (same, h) }

  pub put_first : (x : A) (xs : List A) (ks : Files) (m : Node) → edit x ≡ Ok m → SomeEdited file edit xs ks → SomeEdited file edit (x ∷ xs) (((file x).0, m) ∷ ks)
  put_first x xs ks m made h = record { first = true; is = ((refl, made), h) }

  -- as files that are edited by their paths
  pub by_path : (f : FileEdit) (xs : List A) (ks : Files) → AllByRecursion (λ x. f (file x).0 (file x).1 ≡ edit x) xs → SomeEdited file edit xs ks
      → SomeEdited (λ e. e) (λ e. f e.0 e.1) (map file xs) ks
  by_path f [] [] all h = tt
  by_path f [] (k ∷ ks) all h = absurd h
  by_path f (x ∷ xs) [] all h = (all.0 ∙ h.0, by_path f xs [] all.1 h.1)
  by_path f (x ∷ xs) (k ∷ ks) all h = by (by_path f xs ks all.1) (by_path f xs (k ∷ ks) all.1) h.first h.is
    where
      by : (SomeEdited file edit xs ks → SomeEdited (λ e. e) (λ e. f e.0 e.1) (map file xs) ks)
          → (SomeEdited file edit xs (k ∷ ks) → SomeEdited (λ e. e) (λ e. f e.0 e.1) (map file xs) (k ∷ ks)) → (b : Bool)
          → OneOf b ((((file x).0 ≡ k.0) × (edit x ≡ Ok k.1)) × SomeEdited file edit xs ks) ((edit x ≡ Ok (file x).1) × SomeEdited file edit xs (k ∷ ks))
          → SomeEdited (λ e. e) (λ e. f e.0 e.1) (file x ∷ map file xs) (k ∷ ks)
      by more left true is = record { first = true; is = ((is.0.0, all.0 ∙ is.0.1), more is.1) }
      by more left false is = record { first = false; is = (all.0 ∙ is.0, left is.1) }

  -- so many are put already, and one more is put or left out
  pub put_more : (found xs : List A) (x : A) (before after ms : Files) (m : Node) → edit x ≡ Ok m → PutsOrLeaves before (file x) m after
      → ((ks : Files) → SomeEdited file edit (x ∷ xs) ks → SomeEdited file edit found (before ++ ks))
      → SomeEdited file edit xs ms → SomeEdited file edit found (after ++ ms)
  put_more found xs x before after ms m made one whole h = by one.first one.is
    where
      by : (b : Bool) → OneOf b (after ≡ before ++ ((file x).0, m) ∷ []) ((after ≡ before) × ((file x).1 ≡ m)) → SomeEdited file edit found (after ++ ms)
      by true is =
          subst (λ l. SomeEdited file edit found (l ++ ms)) (sym is)
          (subst (λ l. SomeEdited file edit found l) (sym (append_assoc before (((file x).0, m) ∷ []) ms)) (whole (((file x).0, m) ∷ ms) (put_first x xs ms m made h)))
      by false is = subst (λ l. SomeEdited file edit found (l ++ ms)) (sym is.0) (whole ms (left_out x xs ms (made ∙ ap (λ n. Ok n) (sym is.1)) h))

-- ---- what is put

module _ (f : FileEdit) where
  abbrev Some_of : Files → Files → Type 0
  Some_of es ks = SomeEdited (λ e. e) (λ e. f e.0 e.1) es ks

  abbrev First : PathOf × Node → Files → PathOf × Node → Files → Bool → Type 0
  First e es k ks b = OneOf b (((e.0 ≡ k.0) × (f e.0 e.1 ≡ Ok k.1)) × Some_of es ks) ((f e.0 e.1 ≡ Ok e.1) × Some_of es (k ∷ ks))

  -- all are edited
  abbrev all_after : Files → Files
  all_after es = map (λ e. (e.0, node_after f e.0 e.1)) es

  one_more : (e : PathOf × Node) (es : Files) (m : Node) → f e.0 e.1 ≡ Ok m → edit_each f es ≡ Ok (all_after es) → edit_each f (e ∷ es) ≡ Ok (all_after (e ∷ es))
  one_more e es m made rest =
      (λ i. and_others e.0 (made i) (rest i))
      ∙ (λ i. Ok ((e.0, sym (ap (ok_or e.1) made) i) ∷ all_after es))

  pub each_some : (es ks : Files) → Some_of es ks → edit_each f es ≡ Ok (all_after es)
  each_some [] ks h = refl
  each_some (e ∷ es) [] h = one_more e es e.1 h.0 (each_some es [] h.1)
  each_some (e ∷ es) (k ∷ ks) h = by (each_some es ks) (each_some es (k ∷ ks)) h.first h.is
    where
      by : (Some_of es ks → edit_each f es ≡ Ok (all_after es)) → (Some_of es (k ∷ ks) → edit_each f es ≡ Ok (all_after es)) → (b : Bool) → First e es k ks b
          → edit_each f (e ∷ es) ≡ Ok (all_after (e ∷ es))
      by more left true is = one_more e es k.1 is.0.1 (more is.1)
      by more left false is = one_more e es e.1 is.0 (left is.1)

  below_some : (p : PathOf) (es ks : Files) → IsTrue (below_all path_cmp p es) → Some_of es ks → IsTrue (below_all path_cmp p ks)
  below_some p [] [] below h = refl
  below_some p [] (k ∷ ks) below h = absurd h
  below_some p (e ∷ es) [] below h = refl
  below_some p (e ∷ es) (k ∷ ks) below h =
      let parts = and_parts (is_lt (path_cmp p e.0)) (below_all path_cmp p es) below in
      by parts.0 (below_some p es ks parts.1) (below_some p es (k ∷ ks) parts.1) h.first h.is
    where
      by : IsTrue (is_lt (path_cmp p e.0)) → (Some_of es ks → IsTrue (below_all path_cmp p ks))
          → (Some_of es (k ∷ ks) → IsTrue (below_all path_cmp p (k ∷ ks))) → (b : Bool) → First e es k ks b → IsTrue (below_all path_cmp p (k ∷ ks))
      by first more left true is = both_true _ _ (subst (λ q. IsTrue (is_lt (path_cmp p q))) is.0.0 first) (more is.1)
      by first more left false is = left is.1

  pub in_order-some : (es ks : Files) → IsInOrder es → Some_of es ks → IsInOrder ks
  in_order-some [] [] order h = refl
  in_order-some [] (k ∷ ks) order h = absurd h
  in_order-some (e ∷ es) [] order h = refl
  in_order-some (e ∷ es) (k ∷ ks) order h =
      let parts = and_parts (below_all path_cmp e.0 es) (is_sorted path_cmp es) order in
      by parts.0 (in_order-some es ks parts.1) (in_order-some es (k ∷ ks) parts.1) h.first h.is
    where
      by : IsTrue (below_all path_cmp e.0 es) → (Some_of es ks → IsInOrder ks) → (Some_of es (k ∷ ks) → IsInOrder (k ∷ ks)) → (b : Bool) → First e es k ks b → IsInOrder (k ∷ ks)
      by below more left true is = both_true _ _ (subst (λ q. IsTrue (below_all path_cmp q ks)) is.0.0 (below_some e.0 es ks below is.1)) (more is.1)
      by below more left false is = left is.1

  after_some : (p : PathOf) (es ks : Files) → After p es → Some_of es ks → After p ks
  after_some p [] [] after h = tt
  after_some p [] (k ∷ ks) after h = absurd h
  after_some p (e ∷ es) [] after h = tt
  after_some p (e ∷ es) (k ∷ ks) after h = by (after_some p es ks after.1) (after_some p es (k ∷ ks) after.1) h.first h.is
    where
      by : (Some_of es ks → After p ks) → (Some_of es (k ∷ ks) → After p (k ∷ ks)) → (b : Bool) → First e es k ks b → After p (k ∷ ks)
      by more left true is = (subst (λ q. path_cmp p q ≡ Less) is.0.0 after.0, more is.1)
      by more left false is = left is.1

  module _ (test : PathOf → Bool) where
    abbrev meant : Files → Files
    meant es = filter (λ e. test e.0) es

    after_meant : (p : PathOf) (es : Files) → After p es → After p (meant es)
    after_meant p [] h = tt
    after_meant p (e ∷ es) h = elim (test e.0) as (λ b. After p (cond b (e ∷ meant es) (meant es))) [
      | true ↦ (h.0, after_meant p es h.1)
      | false ↦ after_meant p es h.1
    ]

    abbrev Puts : Files → Files → Type 0
    Puts t ks = put_all ks t ≡ edit_files test (node_after f) t

    -- what is put among the files is their edit
    pub put_some : (t ks : Files) → IsInOrder t → Some_of (meant t) ks → Puts t ks
    put_some [] [] order h = refl
    put_some [] (k ∷ ks) order h = absurd h
    put_some (e ∷ es) ks order h =
        let ordered : IsInOrder es = (and_parts (below_all path_cmp e.0 es) (is_sorted path_cmp es) order).1 in
        by (after_meant e.0 es (later_after e es order)) (λ l some. put_some es l ordered some) (test e.0) ks h
      where
        stays : f e.0 e.1 ≡ Ok e.1 → node_after f e.0 e.1 ≡ e.1
        stays same = ap (ok_or e.1) same

        by_first : After e.0 (meant es) → ((l : Files) → Some_of (meant es) l → Puts es l) → (k : PathOf × Node) (ks : Files) (b : Bool) → First e (meant es) k ks b
            → put_all (k ∷ ks) (e ∷ es) ≡ (e.0, node_after f e.0 e.1) ∷ edit_files test (node_after f) es
        by_first after rest k ks true is =
            ap (λ q. put_all ks (put path_cmp q k.1 (e ∷ es))) (sym is.0.0)
            ∙ ap (λ o. put_all ks (by_order o ((e.0, k.1) ∷ e ∷ es) ((e.0, k.1) ∷ es) (e ∷ put path_cmp e.0 k.1 es))) (tied_itself path_total e.0)
            ∙ put_past (e.0, k.1) ks es (after_some e.0 (meant es) ks after is.1)
            ∙ (λ i. (e.0, sym (ap (ok_or e.1) is.0.1) i) ∷ rest ks is.1 i)
        by_first after rest k ks false is =
            put_past e (k ∷ ks) es (after_some e.0 (meant es) (k ∷ ks) after is.1)
            ∙ (λ i. (e.0, sym (stays is.0) i) ∷ rest (k ∷ ks) is.1 i)

        by : After e.0 (meant es) → ((l : Files) → Some_of (meant es) l → Puts es l) → (b : Bool) (ks : Files) → Some_of (cond b (e ∷ meant es) (meant es)) ks
            → put_all ks (e ∷ es) ≡ (e.0, cond b (node_after f e.0 e.1) e.1) ∷ edit_files test (node_after f) es
        by after rest false ks h = put_past e ks es (after_some e.0 (meant es) ks after h) ∙ ap (λ l. e ∷ l) (rest ks h)
        by after rest true [] h = λ i. (e.0, sym (stays h.0) i) ∷ rest [] h.1 i
        by after rest true (k ∷ ks) h = by_first after rest k ks h.first h.is

    pub in_order-some_meant : (t ks : Files) → IsInOrder t → Some_of (meant t) ks → IsInOrder ks
    in_order-some_meant t ks order h = in_order-some (meant t) ks (in_order-filter (λ e. test e.0) t order) h
