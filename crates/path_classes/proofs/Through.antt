-- The lemma of answers: who gets through the class above a path is who can search each recorded directory above it.
use Rattle.std.proofs.Common.{◌≡◌, ℕ, zero, suc, ◌+◌, ◌&&◌, Bool, true, false, List, [], ◌∷◌, map, get_or, Option, Some, None, refl, sym, ap, subst, ◌∙◌, arith}
use Rattle.std.specs.Prelude.{option_map, IfSome, if◌then◌else◌}
use Rattle.std.specs.List.{AllByRecursion}
use Rattle.std.specs.Option.{option_or, option_map_or, unwrap_or}
use Rattle.acl_entry.specs.Check.{has}
use Rattle.acl_names.specs.Paths.{PathOf}
use Rattle.acl_names.specs.Below.{is_above}
use Rattle.acl_names.proofs.Basics.{and_false}
use Rattle.path_map.specs.Entries.{IsInOrder}
use Rattle.path_map.specs.Below.{nearest_above}
use Rattle.path_map.proofs.AllAbove.{nearest_valued}
use Rattle.kinds.specs.Kinds.{KindsOf, node_at}
use Rattle.kinds.specs.Numbered.{Kept, Numbers, AreUsed, with_node, entries_by, entries_in}
use Rattle.path_classes.specs.declared.label_row.LabelRow.{LabelRow}
use Rattle.path_classes.specs.declared.path_class.PathClass.{PathClass}
use Rattle.path_classes.specs.KindRows.{rows_at}
use Rattle.path_classes.specs.Rows.{Rows}
use Rattle.path_classes.specs.ReachedRows.{execute, can_search, passes_in}
use Rattle.path_classes.specs.Searching.{gets_through, searchers_from, searchers}
use Rattle.path_classes.specs.PathClasses.{kept_search, search_above, depth_below, kind_at, AboveKeeps, HasClass, AreClasses}
use Rattle.path_classes.proofs.Searched.{passes_none, passes_some}

-- ---- who can search

searches_from : (above : Option (List Bool)) (n : ℕ) (cells : List ℕ) (user : ℕ) → get_or (searchers_from above n cells) user false ≡ (gets_through above (n + user) && can_search user cells)
searches_from above n [] user = sym (and_false (gets_through above (n + user)))
searches_from above n (c ∷ cells) zero = let e : n ≡ n + 0 = omega arith in ap (λ k. gets_through above k && has c execute) e
searches_from above n (c ∷ cells) (suc user) = let e : suc n + user ≡ n + suc user = omega arith in searches_from above (suc n) cells user ∙ ap (λ k. gets_through above k && can_search user cells) e

-- a user gets through a directory who gets through above it and can search it
pub searches : (above : Option (List Bool)) (cells : List ℕ) (user : ℕ) → get_or (searchers above cells) user false ≡ (gets_through above user && can_search user cells)
searches above cells user = let e : 0 + user ≡ user = omega arith in searches_from above 0 cells user ∙ ap (λ k. gets_through above k && can_search user cells) e

-- ---- the rows of classes

abbrev cells_at : KindsOf LabelRow → ℕ → List ℕ
cells_at rows n = option_map_or (λ x. x.row) (node_at rows n) []

pub rows_by_numbers : (k : KindsOf LabelRow) (ns : Numbers) → AreUsed k ns → rows_at (entries_by k ns) ≡ map (λ e. (e.0, cells_at k e.1)) ns
rows_by_numbers k [] used = refl
rows_by_numbers k (e ∷ ns) used =
    ap (λ o. rows_at (with_node e.0 o (entries_by k ns))) used.0.1
    ∙ (λ i. (e.0, option_map_or (λ (x : LabelRow). x.row) (sym used.0.1 i) []) ∷ rows_by_numbers k ns used.1 i)

-- the nearest is one of them
nearest_one : {V : Type 0} (P : PathOf × V → Type 0) (p : PathOf) (es : List (PathOf × V)) (r : PathOf × V) → AllByRecursion P es → nearest_above p es ≡ Some r → P r
nearest_one P p [] r all is = cc
nearest_one {V = V} P p (e ∷ es) r all is = by (nearest_above p es) refl (is_above e.0 p) is (nearest_one P p es r all.1)
  where
    by : (u : Option (PathOf × V)) → nearest_above p es ≡ u → (b : Bool) → option_or u (if b then Some e else None) ≡ Some r → (nearest_above p es ≡ Some r → P r) → P r
    by (Some f) found b h more = more (found ∙ h)
    by None found true h more = let same : e ≡ r = cc in subst P same all.0
    by None found false h more = cc

module _ (rows : Kept LabelRow) (classes : Kept PathClass) (used : AreUsed rows.0 rows.1) (w : AreClasses rows classes) where
  abbrev all : Rows
  all = rows_at (entries_in rows)

  abbrev cells_of : ℕ → List ℕ
  cells_of n = cells_at rows.0 (kind_at classes.0 n)

  pub rows_of_classes : all ≡ map (λ e. (e.0, cells_of e.1)) classes.1
  rows_of_classes = rows_by_numbers rows.0 rows.1 used ∙ ap (map {B = PathOf × List ℕ} (λ (e : PathOf × ℕ). (e.0, cells_at rows.0 e.1))) (sym w.kinds) ∙ twice classes.1
    where
      twice : (es : Numbers) → map {B = PathOf × List ℕ} (λ (e : PathOf × ℕ). (e.0, cells_at rows.0 e.1))
          (map {B = PathOf × ℕ} (λ (e : PathOf × ℕ). (e.0, kind_at classes.0 e.1)) es) ≡ map {B = PathOf × List ℕ} (λ (e : PathOf × ℕ). (e.0, cells_of e.1)) es
      twice [] = refl
      twice (e ∷ es) = ap (λ l. (e.0, cells_of e.1) ∷ l) (twice es)

  nearest_row : (p : PathOf) → nearest_above p all ≡ option_map (λ e. (e.0, cells_of e.1)) (nearest_above p classes.1)
  nearest_row p = ap (nearest_above p) rows_of_classes ∙ nearest_valued cells_of p classes.1

  row_of_class : (e : PathOf × ℕ) (h : HasClass rows.0 classes.0 classes.1 e) → cells_of e.1 ≡ h.right.row.row
  row_of_class e h =
      ap (λ o. cells_at rows.0 (option_map_or (λ (c : PathClass). c.kind) o 0)) h.is
      ∙ ap (λ o. option_map_or (λ (x : LabelRow). x.row) o []) h.right.has_row

  module _ (order : IsInOrder all) (user : ℕ) where
    abbrev Passes : (e : PathOf × ℕ) → HasClass rows.0 classes.0 classes.1 e → Type 0
    Passes e h = passes_in all user e.0 ≡ gets_through (search_above classes.0 h.class.above) user

    module _ (e : PathOf × ℕ) (h : HasClass rows.0 classes.0 classes.1 e) where
      passes_first : nearest_above e.0 classes.1 ≡ None → Passes e h
      passes_first is =
          passes_none all user e.0 (nearest_row e.0 ∙ ap (option_map (λ (e : PathOf × ℕ). (e.0, cells_of e.1))) is)
          ∙ ap (λ o. gets_through (search_above classes.0 o) user) (sym (h.above ∙ ap (option_map (λ (e : PathOf × ℕ). e.1)) is))

      module _ (a : PathOf × ℕ) (is : nearest_above e.0 classes.1 ≡ Some a) (g : HasClass rows.0 classes.0 classes.1 a) where
        above_is : h.class.above ≡ Some a.1
        above_is = h.above ∙ ap (option_map (λ (e : PathOf × ℕ). e.1)) is

        -- through the directory above
        passes_next : Passes a g → Passes e h
        passes_next more =
            let keeps : AboveKeeps classes.0 (Some a.1) = subst (AboveKeeps classes.0) above_is h.right.above in
            let kept : g.class.search ≡ Some keeps.0 = sym (ap kept_search g.is) ∙ keeps.1 in
            let made : keeps.0 ≡ searchers (search_above classes.0 g.class.above) g.right.row.row =
            subst (λ o. IfSome o (λ s. s ≡ searchers (search_above classes.0 g.class.above) g.right.row.row)) kept g.right.search in
            passes_some all user e.0 (a.0, cells_of a.1) order (nearest_row e.0 ∙ ap (option_map (λ (e : PathOf × ℕ). (e.0, cells_of e.1))) is)
            ∙ (λ i. more i && can_search user (row_of_class a g i))
            ∙ sym (searches (search_above classes.0 g.class.above) g.right.row.row user)
            ∙ ap (λ (s : List Bool). get_or s user false) (sym made)
            ∙ ap (λ (o : Option (List Bool)). gets_through (Some (unwrap_or o [])) user) (sym keeps.1)
            ∙ ap (λ o. gets_through (search_above classes.0 o) user) (sym above_is)

        depth_next : h.class.depth ≡ suc g.class.depth
        depth_next = h.right.depth ∙ ap (depth_below classes.0) above_is ∙ ap (λ o. suc (option_map_or (λ (c : PathClass). c.depth) o 0)) g.is

      passes_step : ((a : PathOf × ℕ) (g : HasClass rows.0 classes.0 classes.1 a) → h.class.depth ≡ suc g.class.depth → Passes a g) → Passes e h
      passes_step more = by (nearest_above e.0 classes.1) refl
        where
          by : (o : Option (PathOf × ℕ)) → nearest_above e.0 classes.1 ≡ o → Passes e h
          by None is = passes_first is
          by (Some a) is =
              let g : HasClass rows.0 classes.0 classes.1 a = nearest_one (HasClass rows.0 classes.0 classes.1) e.0 classes.1 a w.each is in
              passes_next a is g (more a g (depth_next a is g))

    -- by the depth of the path's class
    passes_at : (d : ℕ) (e : PathOf × ℕ) (h : HasClass rows.0 classes.0 classes.1 e) → h.class.depth ≡ d → Passes e h
    passes_at zero e h deep = passes_step e h (λ a g next. let no : suc g.class.depth ≡ 0 = sym next ∙ deep in cc)
    passes_at (suc d) e h deep = passes_step e h (λ a g next. let less : suc g.class.depth ≡ suc d = sym next ∙ deep in passes_at d a g (omega (arith, less)))

    -- who gets through the class above a path is who can search each recorded directory above it
    pub passes_class : (e : PathOf × ℕ) (h : HasClass rows.0 classes.0 classes.1 e) → Passes e h
    passes_class e h = passes_at h.class.depth e h refl
