-- Classes of files that come in path order.
use Rattle.std.proofs.Common.{◌≡◌, ℕ, zero, suc, Bool, true, false, List, [], ◌∷◌, ◌++◌, map, take, Option, Some, None, Less, append_assoc, append-nil, refl, sym, ap, subst, ◌∙◌}
use Rattle.std.specs.Prelude.{option_map, if◌then◌else◌}
use Rattle.std.specs.List.{AllByRecursion}
use Rattle.std.specs.Option.{option_or, option_map_or}
use Rattle.std.specs.Ordering.{is_gt}
use Rattle.std.proofs.lemmas.Cmp.{tied_itself}
use Rattle.std.proofs.lemmas.List.{map-append}
use Rattle.acl_names.specs.Paths.{path_cmp, PathOf}
use Rattle.acl_names.specs.Below.{is_above}
use Rattle.acl_names.proofs.PathOrder.{path_total}
use Rattle.acl_names.proofs.Basics.{all_end}
use Rattle.acl_names.proofs.Below.{not_below_itself}
use Rattle.path_map.specs.Entries.{IsInOrder}
use Rattle.path_map.specs.Below.{nearest_above, within}
use Rattle.kinds.specs.Kinds.{KindsOf, node_at, count_at, IsNode}
use Rattle.kinds.specs.Numbered.{Kept, Numbers, AreUsed}
use Rattle.path_classes.specs.declared.label_row.LabelRow.{LabelRow}
use Rattle.path_classes.specs.declared.path_class.PathClass.{PathClass}
use Rattle.path_classes.specs.Walks.{nearest_from, nearest, last_from, last_of, AllBefore, IsFrom, IsLeftAbove}
use Rattle.path_classes.specs.PathClasses.{ClassKinds, kind_at, class_above, IsRight, HasClassBelow, HasClass, AreClasses}
use Rattle.path_classes.specs.ClassBuilding.{IsRightAt, IsRightAbove, Grows, Widens, Finds, LeadsTo, HaveClasses, AreMade, AreWalked}
use Rattle.kinds.specs.Renumbered.{SamePaths, IsRenumbered}
use Rattle.path_classes.proofs.Walks.{all_before, before_more, before_take, nearest-append}
use Rattle.path_classes.proofs.Known.{not_above_itself, order_tail, after_first}
use Rattle.path_classes.proofs.Growing.{some_is, stays_itself, right_grown, right_above, widens_itself, widens_on}

-- ---- the class above

above_from : (p : PathOf) (o : Option ℕ) (es : Numbers) → nearest_from o p es ≡ option_or (class_above p es) o
above_from p o [] = refl
above_from p o (e ∷ es) = above_from p (if is_above e.0 p then Some e.1 else o) es ∙ by (nearest_above p es) (is_above e.0 p)
  where
    by : (u : Option (PathOf × ℕ)) (b : Bool)
        → option_or (option_map (λ d. d.1) u) (if b then Some e.1 else o) ≡ option_or (option_map (λ (d : PathOf × ℕ). d.1) (option_or u (if b then Some e else None))) o
    by (Some d) b = refl
    by None true = refl
    by None false = refl

pub above_nearest : (p : PathOf) (es : Numbers) → class_above p es ≡ nearest p es
above_nearest p es = sym (above_from p None es ∙ by (class_above p es))
  where
    by : (o : Option ℕ) → option_or o None ≡ o
    by (Some n) = refl
    by None = refl

-- a path that is not above another one is not the nearest above it
above_more : (p q : PathOf) (n : ℕ) (es : Numbers) → is_above q p ≡ false → class_above p (es ++ (q, n) ∷ []) ≡ class_above p es
above_more p q n es apart =
    above_nearest p (es ++ (q, n) ∷ []) ∙ nearest-append None p es (q, n) ∙ ap (λ b. if b then Some n else nearest p es) apart ∙ sym (above_nearest p es)

-- ---- lists

before_kinds : (f : PathOf × ℕ → ℕ) (p : PathOf) (es : Numbers) → AllBefore p (map (λ e. (e.0, f e)) es) → AllBefore p es
before_kinds f p [] h = tt
before_kinds f p (e ∷ es) h = (h.0, before_kinds f p es h.1)

all_take : {X : Type 0} (P : X → Type 0) (n : ℕ) (xs : List X) → AllByRecursion P xs → AllByRecursion P (take n xs)
all_take P zero [] all = tt
all_take P zero (x ∷ xs) all = tt
all_take P (suc n) [] all = tt
all_take P (suc n) (x ∷ xs) all = (all.0, all_take P n xs all.1)

last_right : (rows : KindsOf LabelRow) (k : ClassKinds) (over o : Option ℕ) (es : Numbers) → IsRightAbove rows k over → IsRightAbove rows k (option_or o over)
    → AllByRecursion (λ e. IsRightAt rows k e.1) es
    → IsRightAbove rows k (option_or (last_from o es) over)
last_right rows k over o [] h is all = is
last_right rows k over o (e ∷ es) h is all = last_right rows k over (Some e.1) es h all.0 all.1

-- ---- a path more

module _ (made rest stack : Numbers) (p : PathOf) (kind n : ℕ) (order : IsInOrder ((p, kind) ∷ rest)) (w : LeadsTo made ((p, kind) ∷ rest) stack)
    (left : Numbers) (depth : ℕ) (taken : left ≡ take depth stack) (l : IsLeftAbove p stack left) where
  later : (q : PathOf) → IsFrom q rest → path_cmp p q ≡ Less
  later q from = after_first (p, kind) rest q order from

  pub leads_more : LeadsTo (made ++ (p, n) ∷ []) rest (left ++ (p, n) ∷ [])
  leads_more = record {
    ahead = λ q from.
        before_more left (p, n) q (subst (AllBefore q) (sym taken) (before_take depth stack q (w.ahead q (ap is_gt (later q from))))) (later q from);
    nearest = λ q from.
        nearest-append None q left (p, n)
        ∙ ap (λ o. if is_above p q then Some n else o) (l.kept q (ap is_gt (later q from)) ∙ w.nearest q (ap is_gt (later q from)))
        ∙ sym (nearest-append None q made (p, n));
  }

-- the number of the label at a class
abbrev pub with_kind : ClassKinds → PathOf × ℕ → PathOf × ℕ
with_kind k e = (e.0, kind_at k e.1)

pub kind_is : (k : ClassKinds) (n : ℕ) (c : PathClass) → node_at k n ≡ Some c → kind_at k n ≡ c.kind
kind_is k n c is = ap (λ o. option_map_or (λ (c : PathClass). c.kind) o 0) is

-- classes that stay have the same labels
pub kinds_widened : (rows : KindsOf LabelRow) (k new : ClassKinds) → Widens rows k new → (over : PathOf × ℕ → Option ℕ) (es : Numbers) → AllByRecursion (λ e. HasClassBelow rows k (over e) e.1) es
    → map (with_kind new) es ≡ map (with_kind k) es
kinds_widened rows k new w over [] h = refl
kinds_widened rows k new w over (e ∷ es) h = λ i. (e.0, same i) ∷ kinds_widened rows k new w over es h.1 i
  where
    same : kind_at new e.1 ≡ kind_at k e.1
    same =
        let d = w.grows e.1 h.0.class h.0.is in
        kind_is new e.1 d.0 d.1.0 ∙ d.1.1.kind ∙ sym (kind_is k e.1 h.0.class h.0.is)

-- a class that stays is right still, below the same class
pub has_widened : (rows : KindsOf LabelRow) (k new : ClassKinds) → Widens rows k new → (over : Option ℕ) (n : ℕ) → HasClassBelow rows k over n → HasClassBelow rows new over n
has_widened rows k new w over n h =
    let d = w.grows n h.class h.is in
    let r = w.right n (h.class, (h.is, h.right)) in
    record { class = d.0; is = d.1.0; above = d.1.1.above ∙ h.above; right = subst (IsRight rows new) (some_is (node_at new n) r.0 d.0 r.1.0 d.1.0) r.1.1 }

module _ (rows : KindsOf LabelRow) (all : Numbers) (order : IsInOrder all) (over : Option ℕ) (first k : ClassKinds) (made rest stack : Numbers) (p : PathOf) (kind : ℕ)
    (w : AreMade rows all over first k made ((p, kind) ∷ rest) stack) where
  ordered : IsInOrder (map (with_kind k) made ++ (p, kind) ∷ rest)
  ordered = subst IsInOrder (sym w.kinds) order

  before : AllBefore p made
  before = before_kinds (λ e. kind_at k e.1) p made (all_before (map (with_kind k) made) (p, kind) rest ordered)

  itself : is_gt (path_cmp p p) ≡ false
  itself = ap is_gt (tied_itself path_total p)

  pub stack_before : AllBefore p stack
  stack_before = w.leads.ahead p itself

  module _ (depth : ℕ) (l : IsLeftAbove p stack (take depth stack)) where
    pub above_right : IsRightAbove rows first over → IsRightAbove rows k (option_or (last_of (take depth stack)) over)
    above_right h =
        let now = right_above rows first k w.widens over h in
        last_right rows k over None (take depth stack) now now (all_take (λ e. IsRightAt rows k e.1) depth stack w.placed)

    module _ (new : ClassKinds) (n : ℕ) (f : Finds rows k (option_or (last_of (take depth stack)) over) kind new n) where
      abbrev more : Numbers
      more = made ++ (p, n) ∷ []

      abbrev Has : ClassKinds → Numbers → PathOf × ℕ → Type 0
      Has k es e = HasClassBelow rows k (option_or (class_above e.0 es) over) e.1

      has_grown : (e : PathOf × ℕ) → path_cmp e.0 p ≡ Less → Has k made e → Has new more e
      has_grown e lt h =
          subst (λ o. HasClassBelow rows new (option_or o over) e.1) (sym (above_more e.0 p n made (not_above_itself e.0 p lt)))
          (has_widened rows k new f.widens (option_or (class_above e.0 made) over) e.1 h)

      each_grown : (es : Numbers) → AllBefore p es → AllByRecursion (Has k made) es → AllByRecursion (Has new more) es
      each_grown [] b h = tt
      each_grown (e ∷ es) b h = (has_grown e b.0 h.0, each_grown es b.1 h.1)

      own : Has new more (p, n)
      own = record {
        class = f.class.class;
        is = f.class.is;
        above =
            f.class.same_above
            ∙ ap (λ o. option_or o over) (l.top ∙ w.leads.nearest p itself ∙ sym (above_nearest p made) ∙ sym (above_more p p n made (not_below_itself p)));
        right = subst (IsRight rows new) (some_is (node_at new n) f.right.0 f.class.class f.right.1.0 f.class.is) f.right.1.1;
      }

      placed_grown : (es : Numbers) → AllByRecursion (λ e. IsRightAt rows k e.1) es → AllByRecursion (λ e. IsRightAt rows new e.1) es
      placed_grown [] h = tt
      placed_grown (e ∷ es) h = (f.widens.right e.1 h.0, placed_grown es h.1)

      pub made_more : AreMade rows all over first new more rest (take depth stack ++ (p, n) ∷ [])
      made_more = record {
        widens = widens_on rows first k new w.widens f.widens;
        kinds = kinds;
        each = all_end (Has new more) made (p, n) (each_grown made before w.each) own;
        placed = all_end (λ e. IsRightAt rows new e.1) (take depth stack) (p, n) (placed_grown (take depth stack) (all_take (λ e. IsRightAt rows k e.1) depth stack w.placed)) f.right;
        leads = leads_more made rest stack p kind n (order_tail (map (with_kind k) made) ((p, kind) ∷ rest) ordered) w.leads (take depth stack) depth refl l;
      }
        where
          last : with_kind new (p, n) ≡ (p, kind)
          last = ap (λ m. (p, m)) (kind_is new n f.class.class f.class.is ∙ f.class.same_kind)

          kinds : map (with_kind new) more ++ rest ≡ all
          kinds =
              ap (λ es. es ++ rest) (map-append (with_kind new) made ((p, n) ∷ []))
              ∙ (λ i. (kinds_widened rows k new f.widens (λ e. option_or (class_above e.0 made) over) made w.each i ++ last i ∷ []) ++ rest)
              ∙ append_assoc (map (with_kind k) made) ((p, kind) ∷ []) rest
              ∙ w.kinds

used_middle : {A : Type 0} (P : A → Type 0) (xs : List A) (y : A) (ys : List A) → AllByRecursion P (xs ++ y ∷ ys) → P y
used_middle P [] y ys h = h.0
used_middle P (x ∷ xs) y ys h = used_middle P xs y ys h.1

-- ---- a step of the loop, by what it reads and what it writes

module _ (rows : KindsOf LabelRow) (all : Numbers) (order : IsInOrder all) (over : Option ℕ) (first k : ClassKinds) (made rest stack : Numbers) (p : PathOf) (kind : ℕ) (left : Numbers)
    (is : rest ≡ (p, kind) ∷ left) (w : AreMade rows all over first k made rest stack) where
  abbrev now : AreMade rows all over first k made ((p, kind) ∷ left) stack
  now = subst (λ l. AreMade rows all over first k made l stack) is w

  pub step_before : AllBefore p stack
  step_before = stack_before rows all order over first k made left stack p kind now

  pub step_row : AreUsed rows all → IsNode rows kind
  step_row used =
      used_middle (λ (e : PathOf × ℕ). IsNode rows e.1) (map {B = PathOf × ℕ} (with_kind k) made) (p, kind) left
      (subst (AreUsed rows) (sym now.kinds) used)

  module _ (depth : ℕ) (l : IsLeftAbove p stack (take depth stack)) (above : Option ℕ) (above_is : above ≡ option_or (last_of (take depth stack)) over) where
    pub step_above : IsRightAbove rows first over → IsRightAbove rows k above
    step_above h = subst (IsRightAbove rows k) (sym above_is) (above_right rows all order over first k made left stack p kind now depth l h)

    pub step_made : (new : ClassKinds) (n : ℕ) → Finds rows k above kind new n
        → (longer next : Numbers) → longer ≡ made ++ (p, n) ∷ [] → next ≡ take depth stack ++ (p, n) ∷ [] → AreMade rows all over first new longer left next
    step_made new n f longer next more_is next_is =
        let g : Finds rows k (option_or (last_of (take depth stack)) over) kind new n = subst (λ o. Finds rows k o kind new n) above_is f in
        subst (λ m. AreMade rows all over first new m left next) (sym more_is)
        (subst (λ m. AreMade rows all over first new (made ++ (p, n) ∷ []) left m) (sym next_is) (made_more rows all order over first k made left stack p kind now depth l new n g))

-- ---- at the start and at the end

pub made_none : (rows : KindsOf LabelRow) (all rest : Numbers) (over : Option ℕ) (k : ClassKinds) (made stack : Numbers) → made ≡ [] → stack ≡ [] → rest ≡ all
    → AreMade rows all over k k made rest stack
made_none rows all rest over k made stack no_made no_stack is =
    subst (λ made. AreMade rows all over k k made rest stack) (sym no_made)
    (subst (AreMade rows all over k k [] rest) (sym no_stack) (record {
      widens = widens_itself rows k;
      kinds = is;
      each = tt;
      placed = tt;
      leads = record { ahead = λ p from. tt; nearest = λ p from. refl };
    }))

pub made_all : (rows : KindsOf LabelRow) (all : Numbers) (over : Option ℕ) (first k : ClassKinds) (made rest stack : Numbers) → rest ≡ [] → AreMade rows all over first k made rest stack
    → AreWalked rows all over first k made
made_all rows all over first k made rest stack none w = record {
  widens = w.widens;
  kinds = sym (append-nil _) ∙ ap (λ r. map (with_kind k) made ++ r) (sym none) ∙ w.kinds;
  each = w.each;
}

-- ---- all paths

-- all paths are at or below the root
pub within_root : {V : Type 0} (es : List (PathOf × V)) → within [] es ≡ es
within_root [] = refl
within_root (e ∷ es) = ap (λ l. e ∷ l) (within_root es)

pub walked_all : (rows : Kept LabelRow) (labels : KindsOf LabelRow) (files : Numbers) (first k : ClassKinds) (made : Numbers) → labels ≡ rows.0 → files ≡ rows.1 → first ≡ ([], [])
    → AreWalked labels files None first k made → AreWalked rows.0 rows.1 None ([], []) k made
walked_all rows labels files first k made same all none w =
    subst (λ l. AreWalked l rows.1 None ([], []) k made) same (subst (λ es. AreWalked labels es None ([], []) k made) all (subst (λ f. AreWalked labels files None f k made) none w))

module _ (rows : Kept LabelRow) (k : ClassKinds) (made : Numbers) (w : AreWalked rows.0 rows.1 None ([], []) k made) where
  paths_of : (es : Numbers) → map (λ (e : PathOf × ℕ). e.0) (map (with_kind k) es) ≡ map (λ (e : PathOf × ℕ). e.0) es
  paths_of [] = refl
  paths_of (e ∷ es) = ap (λ l. e.0 ∷ l) (paths_of es)

  pub made_paths : SamePaths rows.1 made
  made_paths = sym (paths_of made) ∙ ap (map (λ (e : PathOf × ℕ). e.0)) w.kinds

  used_each : (over : PathOf × ℕ → Option ℕ) (es : Numbers) → AllByRecursion (λ e. HasClassBelow rows.0 k (over e) e.1) es → AreUsed k es
  used_each over [] h = tt
  used_each over (e ∷ es) h = ((h.0.class, h.0.is), used_each over es h.1)

  pub made_used : AreUsed k made
  made_used = used_each (λ e. option_or (class_above e.0 made) None) made w.each

  pub made_fresh : (n : ℕ) → count_at k n ≡ 0
  made_fresh n = w.widens.counts n

  module _ (new : Kept PathClass) (r : IsRenumbered k made new) where
    same_grows : Grows k new.0
    same_grows n c is = (c, (r.nodes n ∙ is, stays_itself c))

    or_none : (o : Option ℕ) → option_or o None ≡ o
    or_none None = refl
    or_none (Some n) = refl

    has_still : (e : PathOf × ℕ) → HasClassBelow rows.0 k (option_or (class_above e.0 made) None) e.1 → HasClass rows.0 new.0 new.1 e
    has_still e h = record {
      class = h.class;
      is = r.nodes e.1 ∙ h.is;
      above = h.above ∙ or_none (class_above e.0 made) ∙ ap (class_above e.0) (sym r.numbers);
      right = right_grown rows.0 k new.0 same_grows h.class h.right;
    }

    each_still : (es : Numbers) → HaveClasses rows.0 k None made es → AllByRecursion (HasClass rows.0 new.0 new.1) es
    each_still [] h = tt
    each_still (e ∷ es) h = (has_still e h.0, each_still es h.1)

    kinds_still : (es : Numbers) → map {B = PathOf × ℕ} (with_kind new.0) es ≡ map {B = PathOf × ℕ} (with_kind k) es
    kinds_still [] = refl
    kinds_still (e ∷ es) = λ i. (e.0, option_map_or (λ (c : PathClass). c.kind) (r.nodes e.1 i) 0) ∷ kinds_still es i

    pub made_classes : AreClasses rows new
    made_classes = record {
      kinds = kinds_still new.1 ∙ ap (map {B = PathOf × ℕ} (with_kind k)) r.numbers ∙ w.kinds;
      each = subst (AllByRecursion (HasClass rows.0 new.0 new.1)) (sym r.numbers) (each_still made w.each);
    }
