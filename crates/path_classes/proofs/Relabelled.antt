-- The classes of the same paths, where those of one class have another label.
use Rattle.std.proofs.Common.{◌≡◌, ℕ, suc, ◌<◌, ◌≤◌, ◌||◌, Bool, true, false, List, [], ◌∷◌, map, Option, Some, None, refl, sym, ap, subst, ◌∙◌, arith}
use Rattle.std.proofs.Math.Dec.{eqb→eq, eqb_refl}
use Rattle.std.specs.Prelude.{IfSome, nat_lt, ◌==◌, if◌then◌else◌}
use Rattle.std.specs.List.{AllByRecursion}
use Rattle.std.specs.Option.{option_map_or, unwrap_or}
use Rattle.acl_names.specs.Paths.{PathOf}
use Rattle.acl_names.proofs.Basics.{to_T, from_T}
use Rattle.kinds.specs.Kinds.{node_at, count_at, IsNode}
use Rattle.kinds.specs.Given.{used_at}
use Rattle.kinds.specs.Tagged.{SameBut}
use Rattle.kinds.specs.Numbered.{Kept, Numbers, AreUsed, AreSound, paths_with, one_if}
use Rattle.path_classes.specs.declared.label_row.LabelRow.{LabelRow}
use Rattle.path_classes.specs.declared.path_class.PathClass.{PathClass}
use Rattle.path_classes.specs.Searching.{searchers}
use Rattle.path_classes.specs.PathClasses.{ClassKinds, kept_search, search_at, search_above, depth_below, kind_at, class_above, AboveKeeps, IsRight, HasClass}
use Rattle.kinds.specs.Renumbered.{Replaces}
use Rattle.path_classes.specs.Renewing.{is_one, IsLinked, IsSearch, IsFresh, HasLinked, FitBut, HasKind, AreRelabelled}
use Rattle.path_classes.proofs.Growing.{some_is}
use Rattle.path_classes.proofs.RenewedClasses.{counted_one}

-- a node is put in place
pub has_kind : (old new : Kept PathClass) (n kind : ℕ) (c x : PathClass) (k : ClassKinds) → node_at old.0 n ≡ Some c → x ≡ record c { kind = kind }
    → Replaces old.0 x n k → new ≡ (k, old.1) → HasKind old n kind new
has_kind old new n kind c x k is made r whole = record {
  class = c;
  is = is;
  nodes = λ m. ap (λ (l : Kept PathClass). node_at l.0 m) whole ∙ r.nodes m ∙ ap (λ (y : PathClass). if m == n then Some y else node_at old.0 m) made;
  counts = λ m. ap (λ (l : Kept PathClass). count_at l.0 m) whole ∙ r.counts m;
  numbers = ap (λ (l : Kept PathClass). l.1) whole;
}

-- a map with another node at a number that has one is sound
pub sound_kind : (old : Kept PathClass) (n : ℕ) (x : PathClass) (k : ClassKinds) → AreSound old.0 old.1 → Replaces old.0 x n k → AreSound k old.1
sound_kind old n x k sound r = record { order = sound.order; used = each old.1 sound.used; counted = λ m. r.counts m ∙ sound.counted m }
  where
    node : (m : ℕ) → IsNode old.0 m → (b : Bool) → (m == n) ≡ b → IsNode k m
    node m c true same = (x, r.nodes m ∙ ap (λ b. if b then Some x else node_at old.0 m) same)
    node m c false apart = (c.0, r.nodes m ∙ ap (λ b. if b then Some x else node_at old.0 m) apart ∙ c.1)

    each : (es : Numbers) → AreUsed old.0 es → AreUsed k es
    each [] h = tt
    each (e ∷ es) h = (node e.1 h.0 (e.1 == n) refl, each es h.1)

-- a class that paths have has a node
pub node_there : (old : Kept PathClass) → AreSound old.0 old.1 → (n kind : ℕ) (rows : Kept LabelRow) → AreRelabelled old n kind rows → IsNode old.0 n
node_there old sound n kind rows w =
    let one = counted_one (HasClass w.old.0 old.0 old.1) n old.1 w.were.each (let e = sound.counted n in let used = w.used in omega (arith, used, e)) in
    (one.1.class, one.1.is)

module _ (old : Kept PathClass) (n kind : ℕ) (new : Kept PathClass) (h : HasKind old n kind new) where
  abbrev x : PathClass
  x = record h.class { kind = kind }

  here : (m : ℕ) → (m == n) ≡ true → (node_at old.0 m ≡ Some h.class) × (node_at new.0 m ≡ Some x)
  here m same = (ap (node_at old.0) (eqb→eq m n (to_T (m == n) same)) ∙ h.is, h.nodes m ∙ ap (λ b. if b then Some x else node_at old.0 m) same)

  other : (m : ℕ) → (m == n) ≡ false → node_at new.0 m ≡ node_at old.0 m
  other m apart = h.nodes m ∙ ap (λ b. if b then Some x else node_at old.0 m) apart

  -- at all other numbers the maps are the same
  pub same_but : (ns : List ℕ) → ns ≡ n ∷ [] → SameBut ns old.0 new.0
  same_but ns one m out = by (n == m) refl (ap (is_one m) (sym one) ∙ out)
    where
      by : (b : Bool) → (n == m) ≡ b → (b || false) ≡ false → used_at new.0 m ≡ used_at old.0 m
      by true met out = let no : true ≡ false = out in cc
      by false apart out = let turned : (m == n) ≡ false = grind (arith, apart) in λ i. if nat_lt 0 (h.counts m i) then other m turned i else None

  -- what does not look at labels stays
  stays_by : {A : Type 0} (f : Option PathClass → A) → f (Some x) ≡ f (Some h.class) → (m : ℕ) → f (node_at new.0 m) ≡ f (node_at old.0 m)
  stays_by f alike m = by (m == n) refl
    where
      by : (b : Bool) → (m == n) ≡ b → f (node_at new.0 m) ≡ f (node_at old.0 m)
      by true same = let both = here m same in ap f both.1 ∙ alike ∙ sym (ap f both.0)
      by false apart = ap f (other m apart)

  keeps_kind : (above : Option ℕ) → AboveKeeps old.0 above → AboveKeeps new.0 above
  keeps_kind None k = tt
  keeps_kind (Some m) k = (k.0, stays_by kept_search refl m ∙ k.1)

  depth_kind : (above : Option ℕ) → depth_below new.0 above ≡ depth_below old.0 above
  depth_kind None = refl
  depth_kind (Some m) = ap suc (stays_by (λ o. option_map_or (λ (c : PathClass). c.depth) o 0) refl m)

  search_kind : (above : Option ℕ) → search_above new.0 above ≡ search_above old.0 above
  search_kind None = refl
  search_kind (Some m) = ap (λ (o : Option (List Bool)). Some (unwrap_or o [])) (stays_by kept_search refl m)

  -- who can search down to a class that did not change is who could before
  pub search_still : (last : Kept PathClass) (changed : List ℕ) → ((m : ℕ) → is_one m changed ≡ false → node_at last.0 m ≡ node_at new.0 m) → (m : ℕ)
      → is_one m changed ≡ false → search_at last.0 m ≡ search_at old.0 m
  search_still last changed same m out =
      ap (λ (o : Option PathClass). unwrap_or (kept_search o) []) (same m out) ∙ ap (λ (o : Option (List Bool)). unwrap_or o []) (stays_by kept_search refl m)

  kind_now : (m : ℕ) → kind_at new.0 m ≡ (if m == n then kind else kind_at old.0 m)
  kind_now m = by (m == n) refl
    where
      by : (b : Bool) → (m == n) ≡ b → kind_at new.0 m ≡ (if b then kind else kind_at old.0 m)
      by true same = ap (λ o. option_map_or (λ (c : PathClass). c.kind) o 0) (here m same).1
      by false apart = ap (λ o. option_map_or (λ (c : PathClass). c.kind) o 0) (other m apart)

  module _ (rows : Kept LabelRow) (sound : AreSound old.0 old.1) (w : AreRelabelled old n kind rows) where
    linked_kind : (m : ℕ) (c d : PathClass) → 0 < count_at old.0 m → node_at old.0 m ≡ Some c → IsRight w.old.0 old.0 c → node_at new.0 m ≡ Some d → IsLinked rows.0 new.0 d
    linked_kind m c d used was r is = by (m == n) refl
      where
        by : (b : Bool) → (m == n) ≡ b → IsLinked rows.0 new.0 d
        by true same =
            let both = here m same in
            let one : h.class ≡ c = some_is (node_at old.0 m) h.class c both.0 was in
            let two : x ≡ d = some_is (node_at new.0 m) x d both.1 is in
            subst (IsLinked rows.0 new.0) two (record {
              row = w.relabels.there.0;
              has_row = w.relabels.there.1;
              above = keeps_kind h.class.above (subst (λ (e : PathClass). AboveKeeps old.0 e.above) (sym one) r.above);
              depth = ap (λ (e : PathClass). e.depth) one ∙ r.depth ∙ ap (λ (e : PathClass). depth_below old.0 e.above) (sym one) ∙ sym (depth_kind h.class.above);
            })
        by false apart =
            let one : c ≡ d = some_is (node_at new.0 m) c d (other m apart ∙ was) is in
            subst (IsLinked rows.0 new.0) one (record {
              row = r.row;
              has_row = w.relabels.same m c used was apart ∙ r.has_row;
              above = keeps_kind c.above r.above;
              depth = r.depth ∙ sym (depth_kind c.above);
            })

    node_now : (m : ℕ) (c : PathClass) → node_at old.0 m ≡ Some c → (d : PathClass) × ((node_at new.0 m ≡ Some d) × (d.above ≡ c.above))
    node_now m c was = by (m == n) refl
      where
        by : (b : Bool) → (m == n) ≡ b → (d : PathClass) × ((node_at new.0 m ≡ Some d) × (d.above ≡ c.above))
        by true same =
            let both = here m same in
            (x, (both.1, ap (λ (e : PathClass). e.above) (some_is (node_at old.0 m) h.class c both.0 was)))
        by false apart = (c, (other m apart ∙ was, refl))

    has_linked : (e : PathOf × ℕ) → 0 < count_at old.0 e.1 → HasClass w.old.0 old.0 old.1 e → HasLinked rows.0 new.0 new.1 e
    has_linked e used g =
        let d = node_now e.1 g.class g.is in
        record {
          class = d.0;
          is = d.1.0;
          above = d.1.1 ∙ g.above ∙ ap (class_above e.0) (sym h.numbers);
          linked = linked_kind e.1 g.class d.0 used g.is g.right d.1.0;
        }

    each_kind : (es : Numbers) → ((m : ℕ) → paths_with m es ≤ count_at old.0 m) → AllByRecursion (HasClass w.old.0 old.0 old.1) es → AllByRecursion (HasLinked rows.0 new.0 new.1) es
    each_kind [] few g = tt
    each_kind (e ∷ es) few g = (
      has_linked e (let most = few e.1 in let one : one_if e.1 e.1 ≡ 1 = ap (λ b. if b then 1 else 0) (from_T (e.1 == e.1) (eqb_refl e.1)) in omega (arith, most, one)) g.0,
      each_kind es (λ m. let most = few m in omega (arith, most)) g.1,
    )

    kinds_kind : (es : Numbers) → map {B = PathOf × ℕ} (λ e. (e.0, kind_at new.0 e.1)) es ≡ map {B = PathOf × ℕ} (λ e. (e.0, if e.1 == n then kind else kind_at old.0 e.1)) es
    kinds_kind [] = refl
    kinds_kind (e ∷ es) = λ i. (e.0, kind_now e.1 i) ∷ kinds_kind es i

    fresh_kind : (m : ℕ) (d : PathClass) → 0 < count_at new.0 m → node_at new.0 m ≡ Some d → is_one m (n ∷ []) ≡ false → IsFresh rows.0 new.0 d
    fresh_kind m d used is out = by (m == n) refl
      where
        there : 0 < count_at old.0 m
        there = let e = h.counts m in omega (arith, used, e)

        clash : (b : Bool) → b ≡ true → b ≡ false → ⊥
        clash b p q = cc

        by : (b : Bool) → (m == n) ≡ b → IsFresh rows.0 new.0 d
        by true same = absurd (clash (is_one m (n ∷ [])) (ap (λ k. is_one k (n ∷ [])) (eqb→eq m n (to_T (m == n) same)) ∙ ap (λ b. b || false) (from_T (n == n) (eqb_refl n))) out)
        by false apart =
            let was : node_at old.0 m ≡ Some d = sym (other m apart) ∙ is in
            let one = counted_one (HasClass w.old.0 old.0 old.1) m old.1 w.were.each (let e = sound.counted m in omega (arith, there, e)) in
            let right : IsRight w.old.0 old.0 d = subst (IsRight w.old.0 old.0) (some_is (node_at old.0 m) one.1.class d one.1.is was) one.1.right in
            again apart was right d.search right.search
          where
            again : (m == n) ≡ false → node_at old.0 m ≡ Some d → (right : IsRight w.old.0 old.0 d) → (o : Option (List Bool))
                → IfSome o (λ s. s ≡ searchers (search_above old.0 d.above) right.row.row)
                → IfSome o (IsSearch rows.0 new.0 d)
            again apart was right None f = tt
            again apart was right (Some s) f = λ row has.
                f ∙ (λ i. searchers (sym (search_kind d.above) i)
                (some_is (node_at w.old.0 d.kind) right.row row right.has_row (sym (w.relabels.same m d there was apart) ∙ has) i).row)

    pub fit_kind : FitBut rows new (n ∷ [])
    fit_kind = record {
      kinds = ap (map {B = PathOf × ℕ} (λ (e : PathOf × ℕ). (e.0, kind_at new.0 e.1))) h.numbers ∙ kinds_kind old.1 ∙ sym w.relabels.numbers;
      each = subst (AllByRecursion (HasLinked rows.0 new.0 new.1)) (sym h.numbers) (each_kind old.1 (λ m. let e = sound.counted m in omega (arith, e)) w.were.each);
      waits = record {
        counts = λ m. refl;
        shapes = λ m. refl;
        fresh = fresh_kind;
        used = (let e = h.counts n in let u = w.used in omega (arith, e, u), tt);
        same = λ m out. refl;
      };
    }
