-- Classes by their numbers that stay while others are added, or while one of them keeps who can search down to it.
use Rattle.std.proofs.Common.{◌≡◌, ℕ, zero, suc, Bool, true, false, ◌||◌, List, [], ◌∷◌, ◌++◌, Option, Some, None, eqb, refl, sym, ap, subst, ◌∙◌}
use Rattle.std.proofs.Common.{is_some}
use Rattle.std.proofs.Math.Dec.{eqb→eq, eqb_refl}
use Rattle.acl_names.proofs.Basics.{to_T, from_T, all_end}
use Rattle.std.specs.Prelude.{IfSome, slice_get, ◌==◌, if◌then◌else◌}
use Rattle.std.proofs.lemmas.List.Folds.{list_any-append}
use Rattle.std.specs.List.{AllByRecursion}
use Rattle.std.specs.Option.{option_map_or, unwrap_or}
use Rattle.kinds.specs.Kinds.{KindsOf, node_at, IsNode, Adds}
use Rattle.path_classes.specs.declared.label_row.LabelRow.{LabelRow}
use Rattle.path_classes.specs.declared.path_class.PathClass.{PathClass}
use Rattle.path_classes.specs.PathClasses.{ClassKinds, kept_search, search_above, depth_below, AboveKeeps, IsRight}
use Rattle.path_classes.specs.Searching.{searchers}
use Rattle.path_classes.specs.ClassBuilding.{IsKnown, IsRightAt, IsRightAbove, AreRight, AreKept, IsKeptClass, Stays, Grows, SameClassesBut, Widens, Fills, Keeps, Finds}
use Rattle.kinds.specs.Renumbered.{Replaces}
use Rattle.kinds.specs.Tagged.{is_one}
use Rattle.kinds.proofs.SameNodes.{neither}

pub stays_itself : (c : PathClass) → Stays c c
stays_itself c = record { kind = refl; above = refl; depth = refl; search = λ s h. h }

pub grows_itself : (k : ClassKinds) → Grows k k
grows_itself k n c is = (c, (is, stays_itself c))

stays_on : (c d e : PathClass) → Stays c d → Stays d e → Stays c e
stays_on c d e h k = record {
  kind = k.kind ∙ h.kind;
  above = k.above ∙ h.above;
  depth = k.depth ∙ h.depth;
  search = λ s is. k.search s (h.search s is);
}

pub grows_on : (k l m : ClassKinds) → Grows k l → Grows l m → Grows k m
grows_on k l m g h n c is =
    let d = g n c is in
    let e = h n d.0 d.1.0 in
    (e.0, (e.1.0, stays_on c d.0 e.0 d.1.1 e.1.1))

module _ (rows : KindsOf LabelRow) (old new : ClassKinds) (g : Grows old new) where
  kept_grown : (n : ℕ) (s : List Bool) → kept_search (node_at old n) ≡ Some s → kept_search (node_at new n) ≡ Some s
  kept_grown n s h = by (node_at old n) refl h
    where
      by : (o : Option PathClass) → node_at old n ≡ o → kept_search o ≡ Some s → kept_search (node_at new n) ≡ Some s
      by None is h = cc
      by (Some c) is h = let d = g n c is in ap kept_search d.1.0 ∙ d.1.1.search s h

  pub keeps_grown : (above : Option ℕ) → AboveKeeps old above → AboveKeeps new above
  keeps_grown None h = tt
  keeps_grown (Some n) h = (h.0, kept_grown n h.0 h.1)

  pub search_grown : (above : Option ℕ) → AboveKeeps old above → search_above new above ≡ search_above old above
  search_grown None h = refl
  search_grown (Some n) h = ap (λ (o : Option (List Bool)). Some (unwrap_or o [])) (kept_grown n h.0 h.1 ∙ sym h.1)

  pub depth_grown : (above : Option ℕ) → AboveKeeps old above → depth_below new above ≡ depth_below old above
  depth_grown None h = refl
  depth_grown (Some n) h = by (node_at old n) refl h.1
    where
      by : (o : Option PathClass) → node_at old n ≡ o → kept_search o ≡ Some h.0 → depth_below new (Some n) ≡ depth_below old (Some n)
      by None is k = cc
      by (Some c) is k =
          let d = g n c is in
          ap (λ o. suc (option_map_or (λ (c : PathClass). c.depth) o 0)) d.1.0 ∙ ap suc d.1.1.depth ∙ sym (ap (λ o. suc (option_map_or (λ (c : PathClass). c.depth) o 0)) is)

  pub right_grown : (c : PathClass) → IsRight rows old c → IsRight rows new c
  right_grown c r = record {
    row = r.row;
    has_row = r.has_row;
    above = keeps_grown c.above r.above;
    depth = r.depth ∙ sym (depth_grown c.above r.above);
    search = subst (λ o. IfSome c.search (λ s. s ≡ searchers o r.row.row)) (sym (search_grown c.above r.above)) r.search;
  }

pub some_is : {A : Type 0} (o : Option A) (x y : A) → o ≡ Some x → o ≡ Some y → x ≡ y
some_is o x y h k = let e : Some x ≡ Some y = sym h ∙ k in cc

-- ---- a class more

module _ (rows : KindsOf LabelRow) (old new : ClassKinds) (x : PathClass) (at : ℕ) (a : Adds old x at new) where
  at_other : (n : ℕ) (c : PathClass) → node_at old n ≡ Some c → node_at new n ≡ Some c
  at_other n c is = by (eqb n at) refl
    where
      by : (b : Bool) → eqb n at ≡ b → node_at new n ≡ Some c
      by true same = let no : None ≡ Some c = sym a.free ∙ ap (node_at old) (sym (eqb→eq n at (to_T (eqb n at) same))) ∙ is in cc
      by false apart = a.nodes n ∙ ap (λ b. if b then Some x else node_at old n) apart ∙ is

  pub here : node_at new at ≡ Some x
  here = a.nodes at ∙ ap (λ b. if b then Some x else node_at old at) (same at)
    where
      same : (n : ℕ) → eqb n n ≡ true
      same n = from_T (eqb n n) (eqb_refl n)

  pub adds_grow : Grows old new
  adds_grow n c is = (c, (at_other n c is, stays_itself c))

  pub adds_widen : Widens rows old new
  adds_widen = record {
    grows = adds_grow;
    right = λ n r. (r.0, (at_other n r.0 r.1.0, right_grown rows old new adds_grow r.0 r.1.1));
    counts = a.counts;
  }

-- the class of a label below a class is added
pub adds_finds : (rows : KindsOf LabelRow) (old new : ClassKinds) (x : PathClass) (above : Option ℕ) (kind depth n : ℕ) → IsNode rows kind → AboveKeeps old above
    → depth ≡ depth_below old above → x ≡ record { kind = kind; above = above; depth = depth; search = None } → Adds old x n new → Finds rows old above kind new n
adds_finds rows old new x above kind depth n row keeps deep is a =
    let y : PathClass = record { kind = kind; above = above; depth = depth; search = None } in
    let r : IsRight rows old y = record { row = row.0; has_row = row.1; above = keeps; depth = deep; search = tt } in
    record {
      widens = adds_widen rows old new x n a;
      class = record { class = x; is = here rows old new x n a; same_kind = ap (λ (c : PathClass). c.kind) is; same_above = ap (λ (c : PathClass). c.above) is };
      right = (x, (here rows old new x n a, right_grown rows old new (adds_grow rows old new x n a) x (subst (IsRight rows old) (sym is) r)));
      others = λ m d there out. at_other rows old new x n a m d there;
    }

-- ---- a class that keeps who can search down to it

module _ (rows : KindsOf LabelRow) (old new : ClassKinds) (c x : PathClass) (at : ℕ) (is_old : node_at old at ≡ Some c) (f : Fills rows old c x) (r : Replaces old x at new) where
  replaced_here : node_at new at ≡ Some x
  replaced_here = r.nodes at ∙ ap (λ b. if b then Some x else node_at old at) (same at)
    where
      same : (n : ℕ) → eqb n n ≡ true
      same n = from_T (eqb n n) (eqb_refl n)

  replaced_grows : Grows old new
  replaced_grows n d is = by (eqb n at) refl
    where
      by : (b : Bool) → eqb n at ≡ b → (e : PathClass) × ((node_at new n ≡ Some e) × Stays d e)
      by true same =
          let one : c ≡ d = some_is (node_at old at) c d is_old (ap (node_at old) (sym (eqb→eq n at (to_T (eqb n at) same))) ∙ is) in
          (x, (r.nodes n ∙ ap (λ b. if b then Some x else node_at old n) same, subst (λ d. Stays d x) one f.stays))
      by false apart = (d, (r.nodes n ∙ ap (λ b. if b then Some x else node_at old n) apart ∙ is, stays_itself d))

  replaced_right : (n : ℕ) → IsRightAt rows old n → IsRightAt rows new n
  replaced_right n d = by (eqb n at) refl
    where
      by : (b : Bool) → eqb n at ≡ b → IsRightAt rows new n
      by true same = (x, (r.nodes n ∙ ap (λ b. if b then Some x else node_at old n) same, right_grown rows old new replaced_grows x f.right))
      by false apart = (d.0, (r.nodes n ∙ ap (λ b. if b then Some x else node_at old n) apart ∙ d.1.0, right_grown rows old new replaced_grows d.0 d.1.1))

  replaced_others : SameClassesBut (at ∷ []) old new
  replaced_others n d is out = by (eqb n at) refl
    where
      by : (b : Bool) → eqb n at ≡ b → node_at new n ≡ Some d
      by true same =
          let one : is_one n (at ∷ []) ≡ true = ap (λ m. is_one n (m ∷ [])) (sym (eqb→eq n at (to_T (eqb n at) same))) ∙ ap (λ b. b || false) (from_T (eqb n n) (eqb_refl n)) in
          let no : true ≡ false = sym one ∙ out in cc
      by false apart = r.nodes n ∙ ap (λ b. if b then Some x else node_at old n) apart ∙ is

  pub replaced_keeps : Keeps rows old (Some at) new
  replaced_keeps = record {
    widens = record { grows = replaced_grows; right = replaced_right; counts = r.counts };
    keeps = (f.search, ap kept_search replaced_here ∙ f.kept);
    others = replaced_others;
  }

pub widens_itself : (rows : KindsOf LabelRow) (k : ClassKinds) → Widens rows k k
widens_itself rows k = record { grows = grows_itself k; right = λ n r. r; counts = λ n. refl }

pub widens_on : (rows : KindsOf LabelRow) (k l m : ClassKinds) → Widens rows k l → Widens rows l m → Widens rows k m
widens_on rows k l m v w = record {
  grows = grows_on k l m v.grows w.grows;
  right = λ n r. w.right n (v.right n r);
  counts = λ n. w.counts n ∙ v.counts n;
}

-- it keeps that already
pub keeps_itself : (rows : KindsOf LabelRow) (k : ClassKinds) (above : Option ℕ) → AboveKeeps k above → Keeps rows k above k
keeps_itself rows k above keeps = record { widens = widens_itself rows k; keeps = keeps; others = λ n c is out. is }

pub some_of : {A : Type 0} (o : Option A) → is_some o ≡ true → (x : A) × (o ≡ Some x)
some_of None h = cc
some_of (Some x) h = (x, refl)

pub keeps_there : (rows : KindsOf LabelRow) (k : ClassKinds) (n : ℕ) (c : PathClass) → node_at k n ≡ Some c → is_some c.search ≡ true → Keeps rows k (Some n) k
keeps_there rows k n c is some =
    let s = some_of c.search some in
    keeps_itself rows k (Some n) (s.0, ap kept_search is ∙ s.1)

-- ---- classes that are known

pub all_here : {A : Type 0} (P : A → Type 0) (xs : List A) (at : ℕ) (x : A) → slice_get xs at ≡ Some x → AllByRecursion P xs → P x
all_here P [] at x is h = cc
all_here P (y ∷ xs) zero x is h = subst P (some_is (Some y) y x refl is) h.0
all_here P (y ∷ xs) (suc at) x is h = all_here P xs at x is h.1

-- a class that is found
pub known_finds : (rows : KindsOf LabelRow) (k : ClassKinds) (known : List ℕ) (above : Option ℕ) (kind n : ℕ) → AreRight rows k known → IsKnown k known above kind n → Finds rows k above kind k n
known_finds rows k known above kind n right is = record {
  widens = widens_itself rows k;
  class = is.class;
  right = all_here (IsRightAt rows k) known is.place n is.here right;
  others = λ m d there out. there;
}

-- a class that paths outside have
pub kept_finds : (rows : KindsOf LabelRow) (k outside : ClassKinds) (above : Option ℕ) (kind n : ℕ) → AreKept rows k outside → IsKeptClass k outside above kind n → Finds rows k above kind k n
kept_finds rows k outside above kind n right is = record { widens = widens_itself rows k; class = is.0; right = right n is.1; others = λ m d there out. there }

-- first the class above keeps who can search down to it
pub keeps_finds : (rows : KindsOf LabelRow) (old mid new : ClassKinds) (above : Option ℕ) (kind n : ℕ) → Keeps rows old above mid → Finds rows mid above kind new n → Finds rows old above kind new n
keeps_finds rows old mid new above kind n k f = record {
  widens = widens_on rows old mid new k.widens f.widens;
  class = f.class;
  right = f.right;
  others = λ m d there out. f.others m d (k.others m d there out) out;
}

-- those that were right are right still
pub right_still : (rows : KindsOf LabelRow) (old new : ClassKinds) → Widens rows old new → (known : List ℕ) → AreRight rows old known → AreRight rows new known
right_still rows old new w [] h = tt
right_still rows old new w (n ∷ known) h = (w.right n h.0, right_still rows old new w known h.1)

-- and one more is known
pub known_more : (rows : KindsOf LabelRow) (old new : ClassKinds) (above : Option ℕ) (kind n : ℕ) → Finds rows old above kind new n → (known : List ℕ)
    → AreRight rows old known → AreRight rows new (known ++ n ∷ [])
known_more rows old new above kind n f known h = all_end (IsRightAt rows new) known n (right_still rows old new f.widens known h) f.right

pub right_above : (rows : KindsOf LabelRow) (old new : ClassKinds) → Widens rows old new → (above : Option ℕ) → IsRightAbove rows old above → IsRightAbove rows new above
right_above rows old new w None h = tt
right_above rows old new w (Some n) h = w.right n h

-- a class with who can search down to it
pub fills : (rows : KindsOf LabelRow) (k : ClassKinds) (c : PathClass) (r : IsRight rows k c) (s : List Bool) → s ≡ searchers (search_above k c.above) r.row.row
    → Fills rows k c (record { kind = c.kind; above = c.above; depth = c.depth; search = Some s })
fills rows k c r s is = record {
  stays = record { kind = refl; above = refl; depth = refl; search = λ t has. by t has };
  search = s;
  kept = refl;
  right = record { row = r.row; has_row = r.has_row; above = r.above; depth = r.depth; search = is };
}
  where
    by : (t : List Bool) → c.search ≡ Some t → Some s ≡ Some t
    by t has =
        let same : t ≡ searchers (search_above k c.above) r.row.row = subst (λ o. IfSome o (λ u. u ≡ searchers (search_above k c.above) r.row.row)) has r.search in
        ap Some (is ∙ sym same)

-- classes that stay the same, but for those of more numbers
pub same_more : (numbers more all : List ℕ) (first k new : ClassKinds) → all ≡ numbers ++ more → SameClassesBut numbers first k → SameClassesBut more k new → SameClassesBut all first new
same_more numbers more all first k new is h j n c there out =
    let outs = neither (is_one n numbers) (is_one n more) (sym (list_any-append (λ m. m == n) numbers more) ∙ ap (is_one n) (sym is) ∙ out) in
    j n c (h n c there outs.0) outs.1
