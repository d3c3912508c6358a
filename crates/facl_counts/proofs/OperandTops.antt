-- What is at or below the operands that were found is at or below the operands.
use Rattle.std.proofs.Common.{◌≡◌, ℕ, suc, ◌+◌, ◌<◌, Bool, true, false, cond, ◌||◌, List, [], ◌∷◌, ◌++◌, drop, drop-cons, filter, get_or, is_some, length, map}
use Rattle.std.proofs.Common.{take, Bor, Some, None, refl, sym, ap, subst, ◌∙◌}
use Rattle.std.specs.Prelude.{⊤}
use Rattle.std.specs.Ordering.{eq_by_cmp, is_eq}
use Rattle.std.specs.FinMap.{find}
use Rattle.std.proofs.lemmas.Cmp.{tied_itself}
use Rattle.std.proofs.lemmas.List.{map-append, map_more, take-append-drop}
use Rattle.acl_names.specs.Below.{encloses}
use Rattle.acl_names.specs.Paths.{path_cmp, PathOf}
use Rattle.acl_names.proofs.Basics.{is_equal, or_false}
use Rattle.acl_names.proofs.PathOrder.{exact_paths, path_total}
use Rattle.acl_edit.specs.declared.node.Node.{Node}
use Rattle.acl_tree.specs.Files.{Files}
use Rattle.acl_tree.specs.Found.{FoundFile, found_in, files_found}
use Rattle.acl_tree.specs.Operands.{is_file, first_missing}
use Rattle.path_map.specs.Below.{within}
use Rattle.path_map.specs.Entries.{IsInOrder}
use Rattle.path_classes.specs.ClassesWithin.{paths_seen, is_inside, inside, AreTops}
use Rattle.path_classes.specs.ClassedRows.{paths_of}
use Rattle.path_classes.specs.Tops.{is_in_two}
use Rattle.path_classes.proofs.FoundWithin.{inside_none, none_taken}
use Rattle.facl_answers.proofs.ChangeLines.{paths, order_by_paths}
use Rattle.path_classes.proofs.Tops.{inside_more, tops_parts}

same_path : (p q : PathOf) → eq_by_cmp path_cmp p q ≡ true → p ≡ q
same_path p q is = exact_paths p q (is_equal (path_cmp p q) is)

or_right : (b c : Bool) → c ≡ true → (b || c) ≡ true
or_right true c h = refl
or_right false c h = h

is_itself : (p : PathOf) (b : Bool) → (eq_by_cmp path_cmp p p || b) ≡ true
is_itself p b = ap (λ c. c || b) (ap is_eq (tied_itself path_total p))

both_ways : (a b : Bool) → (a ≡ true → b ≡ true) → (b ≡ true → a ≡ true) → a ≡ b
both_ways true b there back = sym (there refl)
both_ways false true there back = back refl
both_ways false false there back = refl

module _ (q : PathOf) where
  -- an operand that is at or above the path
  operand_above : (ps : List PathOf) (p : PathOf) → is_file false ps p ≡ true → encloses p q ≡ true → is_file true ps q ≡ true
  operand_above [] p is above = absurd (cc is)
  operand_above (r ∷ ps) p is above = by (eq_by_cmp path_cmp p r) refl is (operand_above ps p)
    where
      by : (b : Bool) → eq_by_cmp path_cmp p r ≡ b → (b || is_file false ps p) ≡ true
          → (is_file false ps p ≡ true → encloses p q ≡ true → is_file true ps q ≡ true) → (encloses r q || is_file true ps q) ≡ true
      by true same h more = ap (λ b. b || is_file true ps q) (ap (λ s. encloses s q) (sym (same_path p r same)) ∙ above)
      by false other h more = or_right (encloses r q) (is_file true ps q) (more h above)

  module _ (ps : List PathOf) where
    abbrev found : Files → List PathOf
    found t = map (λ (e : PathOf × Node). e.0) (filter (λ (e : PathOf × Node). is_file false ps e.0) t)

    above_found : (t : Files) → is_inside (found t) q ≡ true → is_file true ps q ≡ true
    above_found [] is = absurd (cc is)
    above_found (e ∷ t) is = by (is_file false ps e.0) refl is (above_found t)
      where
        here : (b : Bool) → encloses e.0 q ≡ b → (b || is_inside (found t) q) ≡ true → is_file false ps e.0 ≡ true
            → (is_inside (found t) q ≡ true → is_file true ps q ≡ true) → is_file true ps q ≡ true
        here true above h asked more = operand_above ps e.0 asked above
        here false above h asked more = more h

        by : (b : Bool) → is_file false ps e.0 ≡ b → is_inside
            (map (λ (e : PathOf × Node). e.0) (cond b (e ∷ filter (λ (e : PathOf × Node). is_file false ps e.0) t) (filter (λ (e : PathOf × Node). is_file false ps e.0) t))) q ≡ true
            → (is_inside (found t) q ≡ true → is_file true ps q ≡ true) → is_file true ps q ≡ true
        by true asked h more = here (encloses e.0 q) refl h asked more
        by false other h more = more h

    found_above : (p : PathOf) → is_file false ps p ≡ true → encloses p q ≡ true → (t : Files) → is_some (find path_cmp p t) ≡ true → is_inside (found t) q ≡ true
    found_above p asked above [] there = absurd (cc there)
    found_above p asked above (e ∷ t) there = by (eq_by_cmp path_cmp p e.0) refl there (found_above p asked above t)
      where
        later : (b : Bool) → is_inside (found t) q ≡ true
            → is_inside (map (λ (e : PathOf × Node). e.0) (cond b (e ∷ filter (λ (e : PathOf × Node). is_file false ps e.0) t) (filter (λ (e : PathOf × Node). is_file false ps e.0) t))) q ≡ true
        later true h = or_right (encloses e.0 q) (is_inside (found t) q) h
        later false h = h

        here : p ≡ e.0 → is_inside (found (e ∷ t)) q ≡ true
        here same =
            ap (λ b. is_inside (map (λ (e : PathOf × Node). e.0) (cond b (e ∷ filter (λ (e : PathOf × Node). is_file false ps e.0) t) (filter (λ (e : PathOf × Node). is_file false ps e.0) t))) q)
            (ap (is_file false ps) (sym same) ∙ asked)
            ∙ ap (λ b. b || is_inside (found t) q) (ap (λ s. encloses s q) (sym same) ∙ above)

        by : (b : Bool) → eq_by_cmp path_cmp p e.0 ≡ b → is_some (cond b (Some e.1) (find path_cmp p t)) ≡ true → (is_some (find path_cmp p t) ≡ true → is_inside (found t) q ≡ true)
            → is_inside (found (e ∷ t)) q ≡ true
        by true same h more = here (same_path p e.0 same)
        by false other h more = later (is_file false ps e.0) (more h)

    -- each of some operands is one, and recorded
    all_found : (t : Files) (rest : List PathOf) → ((p : PathOf) → is_file false rest p ≡ true → is_file false ps p ≡ true) → first_missing rest t ≡ None → is_file true rest q ≡ true
        → is_inside (found t) q ≡ true
    all_found t [] among none is = absurd (cc is)
    all_found t (p ∷ rest) among none is = by (is_some (find path_cmp p t)) refl none (encloses p q) refl is
        (all_found t rest (λ r one. among r (or_right (eq_by_cmp path_cmp r p) (is_file false rest r) one)))
      where
        itself : is_file false (p ∷ rest) p ≡ true
        itself = is_itself p (is_file false rest p)

        by : (b : Bool) → is_some (find path_cmp p t) ≡ b → cond b (first_missing rest t) (Some p) ≡ None → (c : Bool) → encloses p q ≡ c → (c || is_file true rest q) ≡ true
            → (first_missing rest t ≡ None → is_file true rest q ≡ true → is_inside (found t) q ≡ true) → is_inside (found t) q ≡ true
        by false there none c above h more = absurd (cc none)
        by true there none true above h more = found_above p (among p itself) above t there
        by true there none false above h more = more none h

    pub covers : (t : Files) → first_missing ps t ≡ None → is_inside (found t) q ≡ is_file true ps q
    covers t none = both_ways (is_inside (found t) q) (is_file true ps q) (above_found t) (all_found t ps (λ p one. one) none)

-- ---- the rows at or below tops, top by top

pub none_inside : {A : Type 0} (tops : List (Bor PathOf)) (rows : List (PathOf × A)) → inside (paths_seen (take 0 tops)) rows ≡ []
none_inside tops rows = ap (λ ts. inside (paths_seen ts) rows) (none_taken tops) ∙ inside_none rows

module _ (tops : List (Bor PathOf)) (at : ℕ) (top : Bor PathOf) (lt : at < length tops) (is : top ≡ get_or tops at top) where
  cut : paths_seen tops ≡ paths_seen (take at tops) ++ top.now ∷ paths_seen (drop (suc at) tops)
  cut =
      ap paths_seen (sym (take-append-drop at tops) ∙ ap (λ l. take at tops ++ l) (drop-cons tops at top lt ∙ ap (λ p. p ∷ drop (suc at) tops) (sym is)))
      ∙ map-append (λ (p : Bor PathOf). p.now) (take at tops) (top ∷ drop (suc at) tops)

  pub one_inside : {A : Type 0} → AreTops (paths_seen tops) → (rows : List (PathOf × A)) → IsInOrder rows
      → inside (paths_seen (take at tops)) rows ++ within top.now rows ≡ inside (paths_seen (take (at + 1) tops)) rows
  one_inside are rows order =
      sym (inside_more (paths_seen (take at tops)) top.now (tops_parts (paths_seen (take at tops)) top.now (paths_seen (drop (suc at) tops)) (subst AreTops cut are)).0 rows order)
      ∙ ap (λ ts. inside ts rows) (ap (λ (p : Bor PathOf). paths_seen (take at tops) ++ p.now ∷ []) is ∙ sym (map_more (λ (p : Bor PathOf). p.now) tops at top lt))

-- all rows at or below the operands
pub operand_rows : {A : Type 0} (tops ps : List PathOf) → ((q : PathOf) → is_inside tops q ≡ is_file true ps q) → (rows : List (PathOf × A))
    → inside tops rows ≡ filter (λ row. is_file true ps row.0) rows
operand_rows tops ps same [] = refl
operand_rows tops ps same (row ∷ rows) = λ i. cond (same row.0 i) (row ∷ operand_rows tops ps same rows i) (operand_rows tops ps same rows i)

-- ---- files that were found

pub found_entries : (t es : Files) → map (λ (f : FoundFile). (f.path, f.node)) (found_in t es) ≡ es
found_entries t [] = refl
found_entries t (e ∷ es) = ap (λ l. e ∷ l) (found_entries t es)

found_paths : (t es : Files) → map (λ (f : FoundFile). f.path) (found_in t es) ≡ map (λ (e : PathOf × Node). e.0) es
found_paths t [] = refl
found_paths t (e ∷ es) = ap (λ l. e.0 ∷ l) (found_paths t es)

pub found_covers : (ps : List PathOf) (t : Files) → first_missing ps t ≡ None → (q : PathOf) → is_inside (map (λ (f : FoundFile). f.path) (files_found false ps t)) q ≡ is_file true ps q
found_covers ps t none q = ap (λ paths. is_inside paths q) (found_paths t (filter (λ (e : PathOf × Node). is_file false ps e.0) t)) ∙ covers q ps t none

-- paths without values
abbrev pub path_alone : FoundFile → PathOf × ⊤
path_alone f = (f.path, tt)

pub alone_order : (files : List FoundFile) → IsInOrder (map (λ (f : FoundFile). (f.path, f.node)) files) → IsInOrder (map path_alone files)
alone_order files order = subst (λ b. b ≡ true) (sym (order_by_paths (map path_alone files) (map (λ (f : FoundFile). (f.path, f.node)) files) (same files))) order
  where
    same : (files : List FoundFile) → paths (map path_alone files) ≡ paths (map (λ (f : FoundFile). (f.path, f.node)) files)
    same [] = refl
    same (f ∷ files) = ap (λ l. f.path ∷ l) (same files)

pub alone_covers : (files : List FoundFile) (q : PathOf) → is_in_two {W = ⊤} (map path_alone files) [] q ≡ is_inside (map (λ (f : FoundFile). f.path) files) q
alone_covers files q = or_false (is_inside (paths_of (map path_alone files)) q) ∙ ap (λ ps. is_inside ps q) (same files)
  where
    same : (files : List FoundFile) → paths_of (map path_alone files) ≡ map (λ (f : FoundFile). f.path) files
    same [] = refl
    same (f ∷ files) = ap (λ l. f.path ∷ l) (same files)
