-- The classes of the same paths, where who can search was made again.
use Rattle.std.proofs.Common.{◌≡◌, ℕ, ◌<◌, ◌≤◌, Bool, true, false, List, [], ◌∷◌, map, is_some, Option, Some, None, refl, sym, ap, subst, ◌∙◌, arith}
use Rattle.std.proofs.Math.Dec.{eqb→eq, eqb_refl}
use Rattle.std.specs.Prelude.{IfSome, option_map, nat_lt, ◌==◌, if◌then◌else◌}
use Rattle.std.specs.List.{AllByRecursion}
use Rattle.std.specs.Option.{option_map_or}
use Rattle.acl_names.specs.Paths.{PathOf}
use Rattle.acl_names.proofs.Basics.{to_T, from_T}
use Rattle.kinds.specs.Kinds.{KindsOf, node_at, count_at, IsNode}
use Rattle.kinds.specs.Tagged.{tags_at}
use Rattle.kinds.specs.Numbered.{Kept, Numbers, AreUsed, AreSound, paths_with, one_if}
use Rattle.path_classes.specs.declared.label_row.LabelRow.{LabelRow}
use Rattle.path_classes.specs.declared.path_class.PathClass.{PathClass}
use Rattle.path_classes.specs.Searching.{searchers}
use Rattle.path_classes.specs.PathClasses.{ClassKinds, kind_at, search_above, IsRight, HasClass, AreClasses}
use Rattle.path_classes.specs.ClassTags.{class_tags}
use Rattle.path_classes.specs.ClassedRows.{verdicts_at, ChangesRows}
use Rattle.path_classes.specs.Renewing.{is_one, IsLinked, IsSearch, IsFresh, AreLinked, Shape, shape, shape_at, Awaits, AreRenewed, HasLinked, FitBut, AreClassesOf, AreSearched}
use Rattle.path_classes.proofs.Growing.{some_is}
use Rattle.path_classes.proofs.Renewals.{shape_of, linked_shaped}

-- a number that is counted is that of one of the entries
pub counted_one : (P : PathOf × ℕ → Type 0) (n : ℕ) (es : Numbers) → AllByRecursion P es → 0 < paths_with n es → (p : PathOf) × P (p, n)
counted_one P n [] h some = absurd (omega (arith, some))
counted_one P n (e ∷ es) h some = by (e.1 == n) refl (counted_one P n es h.1)
  where
    by : (b : Bool) → (e.1 == n) ≡ b → (0 < paths_with n es → (p : PathOf) × P (p, n)) → (p : PathOf) × P (p, n)
    by true here more = (e.0, subst (λ m. P (e.0, m)) (eqb→eq e.1 n (to_T (e.1 == n) here)) h.0)
    by false apart more = more (let none : one_if n e.1 ≡ 0 = ap (λ b. if b then 1 else 0) apart in omega (arith, none, some))

-- tags go by what stays
abbrev tags_of_class : PathClass → List ℕ
tags_of_class c = class_tags (is_some c.search) c.above c.kind

abbrev tags_of_shape : Shape → List ℕ
tags_of_shape s = class_tags s.1.1.1 s.1.0 s.0

tags_by_shape : (b : Bool) (o : Option PathClass) → option_map_or tags_of_class (if b then o else None) [] ≡ option_map_or tags_of_shape (if b then option_map shape o else None) []
tags_by_shape true None = refl
tags_by_shape true (Some c) = refl
tags_by_shape false o = refl

-- classes of the same shapes
module _ (classes : Kept PathClass) (sound : AreSound classes.0 classes.1) (new : ClassKinds) (counts : (n : ℕ) → count_at new n ≡ count_at classes.0 n)
    (shapes : (n : ℕ) → shape_at new n ≡ shape_at classes.0 n) where
  node_still : (n : ℕ) → IsNode classes.0 n → IsNode new n
  node_still n x = let d = shape_of classes.0 new (λ m. sym (shapes m)) n x.0 x.1 in (d.0, d.1.0)

  used_still : (es : Numbers) → AreUsed classes.0 es → AreUsed new es
  used_still [] h = tt
  used_still (e ∷ es) h = (node_still e.1 h.0, used_still es h.1)

  pub still_sound : AreSound new classes.1
  still_sound = record { order = sound.order; used = used_still classes.1 sound.used; counted = λ n. counts n ∙ sound.counted n }

  same_tags : (n : ℕ) → tags_at tags_of_class new n ≡ tags_at tags_of_class classes.0 n
  same_tags n =
      tags_by_shape (nat_lt 0 (count_at new n)) (node_at new n)
      ∙ (λ i. option_map_or tags_of_shape (if nat_lt 0 (counts n i) then shapes n i else None) [])
      ∙ sym (tags_by_shape (nat_lt 0 (count_at classes.0 n)) (node_at classes.0 n))

  pub tags_still : (last : Kept PathClass) → last ≡ (new, classes.1) → (n : ℕ) → tags_at tags_of_class last.0 n ≡ tags_at tags_of_class classes.0 n
  tags_still last is n = ap (λ (l : Kept PathClass). tags_at tags_of_class l.0 n) is ∙ same_tags n

pub renewed_all : (rows : KindsOf LabelRow) (before k : ClassKinds) (changed : List ℕ) → Awaits rows before k [] changed → AreRenewed rows before k
renewed_all rows before k changed a = record { counts = a.counts; shapes = a.shapes; fresh = λ n c used is. a.fresh n c used is refl }

module _ (rows : Kept LabelRow) (classes : Kept PathClass) (sound : AreSound classes.0 classes.1) (waiting : List ℕ) (w : FitBut rows classes waiting) where
  pub fit_linked : AreLinked rows.0 classes.0
  fit_linked n c used is =
      let one = counted_one (HasLinked rows.0 classes.0 classes.1) n classes.1 w.each (let e = sound.counted n in omega (arith, used, e)) in
      subst (IsLinked rows.0 classes.0) (some_is (node_at classes.0 n) one.1.class c one.1.is is) one.1.linked

  module _ (new : ClassKinds) (a : AreRenewed rows.0 classes.0 new) where
    kinds_still : (es : Numbers) → map {B = PathOf × ℕ} (λ e. (e.0, kind_at new e.1)) es ≡ map {B = PathOf × ℕ} (λ e. (e.0, kind_at classes.0 e.1)) es
    kinds_still [] = refl
    kinds_still (e ∷ es) = λ i. (e.0, same i) ∷ kinds_still es i
      where
        of_shape : (o : Option PathClass) → option_map_or (λ x. x.0) (option_map shape o) 0 ≡ option_map_or (λ (c : PathClass). c.kind) o 0
        of_shape None = refl
        of_shape (Some c) = refl

        same : kind_at new e.1 ≡ kind_at classes.0 e.1
        same = sym (of_shape (node_at new e.1)) ∙ ap (λ o. option_map_or (λ x. x.0) o 0) (a.shapes e.1) ∙ of_shape (node_at classes.0 e.1)

    right_now : (n : ℕ) (c : PathClass) → 0 < count_at new n → node_at new n ≡ Some c → IsRight rows.0 new c
    right_now n c used is =
        let l = linked_shaped rows.0 classes.0 new a.shapes fit_linked a.counts n c used is in
        record {
          row = l.row;
          has_row = l.has_row;
          above = l.above;
          depth = l.depth;
          search = by c.search (a.fresh n c used is) l.row l.has_row;
        }
      where
        by : (o : Option (List Bool)) → IfSome o (IsSearch rows.0 new c) → (row : LabelRow) → node_at rows.0 c.kind ≡ Some row → IfSome o (λ s. s ≡ searchers (search_above new c.above) row.row)
        by None f row has = tt
        by (Some s) f row has = f row has

    has_now : (e : PathOf × ℕ) → 0 < count_at classes.0 e.1 → HasLinked rows.0 classes.0 classes.1 e → HasClass rows.0 new classes.1 e
    has_now e used h =
        let d = shape_of classes.0 new (λ m. sym (a.shapes m)) e.1 h.class h.is in
        record {
          class = d.0;
          is = d.1.0;
          above = sym (ap (λ x. x.1.0) d.1.1) ∙ h.above;
          right = right_now e.1 d.0 (let c = a.counts e.1 in omega (arith, used, c)) d.1.0;
        }

    each_now : (es : Numbers) → ((n : ℕ) → paths_with n es ≤ count_at classes.0 n) → AllByRecursion (HasLinked rows.0 classes.0 classes.1) es → AllByRecursion (HasClass rows.0 new classes.1) es
    each_now [] few h = tt
    each_now (e ∷ es) few h = (
      has_now e (let most = few e.1 in let one : one_if e.1 e.1 ≡ 1 = ap (λ b. if b then 1 else 0) (from_T (e.1 == e.1) (eqb_refl e.1)) in omega (arith, most, one)) h.0,
      each_now es (λ n. let most = few n in omega (arith, most)) h.1,
    )

    pub renewed_classes : AreClasses rows (new, classes.1)
    renewed_classes = record { kinds = kinds_still classes.1 ∙ w.kinds; each = each_now classes.1 (λ n. let e = sound.counted n in omega (arith, e)) w.each }

-- ---- rows of some labels are others

module _ (old new : Kept LabelRow) (classes : Kept PathClass) (sound : AreSound classes.0 classes.1) (labels waiting : List ℕ) (w : AreClasses old classes) (r : ChangesRows old labels new)
    (c : AreClassesOf classes.0 labels waiting) where
  linked_new : (d : PathClass) → IsRight old.0 classes.0 d → IsLinked new.0 classes.0 d
  linked_new d h = let x = r.there d.kind (h.row, h.has_row) in record { row = x.0; has_row = x.1; above = h.above; depth = h.depth }

  each_linked : (es : Numbers) → AllByRecursion (HasClass old.0 classes.0 classes.1) es → AllByRecursion (HasLinked new.0 classes.0 classes.1) es
  each_linked [] h = tt
  each_linked (e ∷ es) h = (record { class = h.0.class; is = h.0.is; above = h.0.above; linked = linked_new h.0.class h.0.right }, each_linked es h.1)

  fresh_new : (n : ℕ) (d : PathClass) → 0 < count_at classes.0 n → node_at classes.0 n ≡ Some d → is_one n waiting ≡ false → IsFresh new.0 classes.0 d
  fresh_new n d used is out = by d.search refl right.search
    where
      one : (p : PathOf) × HasClass old.0 classes.0 classes.1 (p, n)
      one = counted_one (HasClass old.0 classes.0 classes.1) n classes.1 w.each (let e = sound.counted n in omega (arith, used, e))

      right : IsRight old.0 classes.0 d
      right = subst (IsRight old.0 classes.0) (some_is (node_at classes.0 n) one.1.class d one.1.is is) one.1.right

      clash : (b : Bool) → b ≡ true → b ≡ false → ⊥
      clash b h k = cc

      apart : is_some d.search ≡ true → (b : Bool) → is_one d.kind labels ≡ b → is_one d.kind labels ≡ false
      apart some true here = absurd (clash (is_one n waiting) (c.all n d used is some here) out)
      apart some false here = here

      by : (o : Option (List Bool)) → d.search ≡ o → IfSome o (λ s. s ≡ searchers (search_above classes.0 d.above) right.row.row) → IfSome o (IsSearch new.0 classes.0 d)
      by None none f = tt
      by (Some s) some f = λ row has.
          f ∙ ap (searchers (search_above classes.0 d.above))
          (some_is (verdicts_at old.0 d.kind) right.row.row row.row (ap (option_map (λ (x : LabelRow). x.row)) right.has_row)
          (sym (r.same d.kind (apart (ap is_some some) (is_one d.kind labels) refl)) ∙ ap (option_map (λ (x : LabelRow). x.row)) has))

  -- all classes fit the new rows, but for those of these labels that keep who can search
  pub fit_rows : FitBut new classes waiting
  fit_rows = record {
    kinds = w.kinds ∙ sym r.numbers;
    each = each_linked classes.1 w.each;
    waits = record { counts = λ n. refl; shapes = λ n. refl; fresh = fresh_new; used = c.used; same = λ n h. refl };
  }

-- ---- all rows may be others

module _ (old new : Kept LabelRow) (classes : Kept PathClass) (used : AreUsed new.0 new.1) (waiting : List ℕ) (w : AreClasses old classes)
    (paths : new.1 ≡ old.1) (c : AreSearched classes.0 waiting) where
  all_linked : (es : Numbers) → AreUsed new.0 (map {B = PathOf × ℕ} (λ e. (e.0, kind_at classes.0 e.1)) es) → AllByRecursion (HasClass old.0 classes.0 classes.1) es
      → AllByRecursion (HasLinked new.0 classes.0 classes.1) es
  all_linked [] u h = tt
  all_linked (e ∷ es) u h = (
    (let kind : kind_at classes.0 e.1 ≡ h.0.class.kind = ap (λ o. option_map_or (λ (c : PathClass). c.kind) o 0) h.0.is in
        record {
          class = h.0.class;
          is = h.0.is;
          above = h.0.above;
          linked = record { row = u.0.0; has_row = ap (node_at new.0) (sym kind) ∙ u.0.1; above = h.0.right.above; depth = h.0.right.depth };
        }),
    all_linked es u.1 h.1,
  )

  fresh_all : (n : ℕ) (d : PathClass) → 0 < count_at classes.0 n → node_at classes.0 n ≡ Some d → is_one n waiting ≡ false → IsFresh new.0 classes.0 d
  fresh_all n d used is out = by d.search refl
    where
      by : (o : Option (List Bool)) → d.search ≡ o → IfSome o (IsSearch new.0 classes.0 d)
      by None none = tt
      by (Some s) some = let no : true ≡ false = sym (c.all n d used is (ap is_some some)) ∙ out in cc

  -- all classes fit the new rows, but for those that keep who can search
  pub fit_all_rows : FitBut new classes waiting
  fit_all_rows = record {
    kinds = w.kinds ∙ sym paths;
    each = all_linked classes.1 (subst (AreUsed new.0) (paths ∙ sym w.kinds) used) w.each;
    waits = record { counts = λ n. refl; shapes = λ n. refl; fresh = fresh_all; used = c.used; same = λ n h. refl };
  }
