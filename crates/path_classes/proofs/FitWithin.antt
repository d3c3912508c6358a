-- After a change of rows inside, the classes of the paths outside fit still.
use Rattle.std.proofs.Common.{◌≡◌, ℕ, Bool, true, false, not, cond, List, [], ◌∷◌, map, refl, sym, ap, subst, ◌∙◌}
use Rattle.std.specs.Prelude.{option_map}
use Rattle.std.specs.List.{AllByRecursion}
use Rattle.acl_names.specs.Paths.{PathOf}
use Rattle.kinds.specs.Kinds.{node_at}
use Rattle.kinds.specs.Numbered.{Kept, Numbers}
use Rattle.path_classes.specs.declared.label_row.LabelRow.{LabelRow}
use Rattle.path_classes.specs.declared.path_class.PathClass.{PathClass}
use Rattle.path_classes.specs.PathClasses.{ClassKinds, kind_at, HasClass, AreClasses}
use Rattle.path_classes.specs.ClassesWithin.{is_inside, outside, ChangesInside, FitOutside}
use Rattle.path_classes.proofs.Making.{with_kind, kind_is}
use Rattle.path_classes.proofs.Tops.{all_outside, not_above_outside, outside_above}
use Rattle.path_classes.proofs.FoundWithin.{all_both, all_filter}

-- other values leave what is outside
outside_kinds : (tops : List PathOf) (k : ClassKinds) (es : Numbers) → map (with_kind k) (outside tops es) ≡ outside tops (map (with_kind k) es)
outside_kinds tops k [] = refl
outside_kinds tops k (e ∷ es) = by (is_inside tops e.0) (outside_kinds tops k es)
  where
    by : (b : Bool) → map (with_kind k) (outside tops es) ≡ outside tops (map (with_kind k) es)
        → map (with_kind k) (cond (not b) (e ∷ outside tops es) (outside tops es)) ≡ cond (not b) (with_kind k e ∷ outside tops (map (with_kind k) es)) (outside tops (map (with_kind k) es))
    by true more = more
    by false more = ap (λ l. with_kind k e ∷ l) more

-- what holds of labels' numbers, by the classes
by_class : (P : ℕ → Type 0) (k : ClassKinds) (es : Numbers) → AllByRecursion (λ (e : PathOf × ℕ). P e.1) (map (with_kind k) es) → AllByRecursion (λ (e : PathOf × ℕ). P (kind_at k e.1)) es
by_class P k [] h = tt
by_class P k (e ∷ es) h = (h.0, by_class P k es h.1)

module _ (old new : Kept LabelRow) (tops : List PathOf) (classes : Kept PathClass) (w : AreClasses old classes) (r : ChangesInside old tops new) where
  kinds_outside : map (with_kind classes.0) (outside tops classes.1) ≡ outside tops old.1
  kinds_outside = outside_kinds tops classes.0 classes.1 ∙ ap (outside tops) w.kinds

  same_rows : AllByRecursion (λ (e : PathOf × ℕ). node_at new.0 (kind_at classes.0 e.1) ≡ node_at old.0 (kind_at classes.0 e.1)) (outside tops classes.1)
  same_rows =
      by_class (λ n. node_at new.0 n ≡ node_at old.0 n) classes.0 (outside tops classes.1)
      (subst (AllByRecursion (λ (e : PathOf × ℕ). node_at new.0 e.1 ≡ node_at old.0 e.1)) (sym kinds_outside) r.rows)

  has_outside : (e : PathOf × ℕ) → is_inside tops e.0 ≡ false → node_at new.0 (kind_at classes.0 e.1) ≡ node_at old.0 (kind_at classes.0 e.1) → HasClass old.0 classes.0 classes.1 e
      → HasClass new.0 classes.0 (outside tops classes.1) e
  has_outside e out same h = record {
    class = h.class;
    is = h.is;
    above = h.above ∙ sym (ap (option_map (λ (e : PathOf × ℕ). e.1)) (outside_above tops e.0 (not_above_outside tops e.0 out) classes.1));
    right = record {
      row = h.right.row;
      has_row = (let is = kind_is classes.0 e.1 h.class h.is in (λ i. node_at new.0 (sym is i)) ∙ same ∙ (λ i. node_at old.0 (is i)) ∙ h.right.has_row);
      above = h.right.above;
      depth = h.right.depth;
      search = h.right.search;
    };
  }

  pub fits_outside : FitOutside new tops classes
  fits_outside = record {
    kinds = kinds_outside ∙ sym r.numbers;
    each =
        all_both (λ (e : PathOf × ℕ). (is_inside tops e.0 ≡ false) × (node_at new.0 (kind_at classes.0 e.1) ≡ node_at old.0 (kind_at classes.0 e.1))) (HasClass old.0 classes.0 classes.1)
        (HasClass new.0 classes.0 (outside tops classes.1)) (λ e o h. has_outside e o.0 o.1 h) (outside tops classes.1)
        (all_pairs (outside tops classes.1) (all_outside tops classes.1) same_rows)
        (all_filter (HasClass old.0 classes.0 classes.1) (λ e. not (is_inside tops e.0)) classes.1 w.each);
  }
    where
      all_pairs : (es : Numbers) → AllByRecursion (λ (e : PathOf × ℕ). is_inside tops e.0 ≡ false) es
          → AllByRecursion (λ (e : PathOf × ℕ). node_at new.0 (kind_at classes.0 e.1) ≡ node_at old.0 (kind_at classes.0 e.1)) es
          → AllByRecursion (λ (e : PathOf × ℕ). (is_inside tops e.0 ≡ false) × (node_at new.0 (kind_at classes.0 e.1) ≡ node_at old.0 (kind_at classes.0 e.1))) es
      all_pairs [] h k = tt
      all_pairs (e ∷ es) h k = ((h.0, k.0), all_pairs es h.1 k.1)
