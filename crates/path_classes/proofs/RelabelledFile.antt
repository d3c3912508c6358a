-- One path has another label, and its class is its own.
use Rattle.std.proofs.Common.{◌≡◌, ℕ, ◌+◌, ◌<◌, ◌≤◌, Bool, true, false, ◌||◌, cond, IsTrue, List, [], ◌∷◌, length, map, get_or, Option, Some, None, Ordering, Less}
use Rattle.std.proofs.Common.{Equal, Greater, refl, sym, ap, subst, ◌∙◌, arith}
use Rattle.std.proofs.Math.Dec.{eqb→eq, eqb_refl}
use Rattle.std.specs.Prelude.{is_some, not, ◌==◌, count_by, option_map, if◌then◌else◌}
use Rattle.std.specs.List.{AllByRecursion}
use Rattle.std.specs.Option.{option_map_or}
use Rattle.std.specs.Ordering.{is_eq, is_lt}
use Rattle.std.specs.FinMap.{find, put, is_sorted}
use Rattle.std.specs.FinMap.Entries.{below_all, by_order, find-put}
use Rattle.std.proofs.lemmas.Bool.{and_parts}
use Rattle.std.proofs.lemmas.Cmp.{tied_itself}
use Rattle.std.proofs.lemmas.List.Sums.{sum_by-cons}
use Rattle.acl_names.specs.Paths.{path_cmp, PathOf}
use Rattle.acl_names.specs.Below.{encloses, is_above}
use Rattle.acl_names.proofs.PathOrder.{path_total, exact_paths}
use Rattle.acl_names.proofs.Basics.{not_both, is_equal, is_less, to_T, from_T}
use Rattle.acl_names.proofs.Below.{within_itself, not_below_itself}
use Rattle.path_map.specs.Entries.{IsInOrder}
use Rattle.path_map.specs.Merged.{merged, without_all}
use Rattle.kinds.specs.Kinds.{node_at, count_at, IsNode}
use Rattle.kinds.specs.Numbered.{Kept, Numbers, AreSound, paths_with, one_if, entries_in}
use Rattle.kinds.proofs.Chosen.{among_all}
use Rattle.kinds.proofs.EntriesBy.{all_weaker}
use Rattle.path_classes.specs.declared.label_row.LabelRow.{LabelRow}
use Rattle.path_classes.specs.declared.path_class.PathClass.{PathClass}
use Rattle.path_classes.specs.ClassedRows.{SameAnswers, AreCounted, PutsRow, PutsRows, paths_of, AllInside}
use Rattle.path_classes.specs.ClassesWithin.{is_inside, inside}
use Rattle.path_classes.specs.FoundClasses.{is_below_some}
use Rattle.path_classes.specs.PathClasses.{search_at, kind_at, class_above, AreClasses}
use Rattle.path_classes.specs.Renewing.{is_one, IsOwnClass, AreRelabelled}
use Rattle.path_classes.proofs.Growing.{some_is}
use Rattle.path_classes.proofs.Inside.{above_inside, nearest_inside}
use Rattle.path_classes.proofs.Maps.{find-values}
use Rattle.path_classes.proofs.Reaching.{all_found}
use Rattle.path_classes.proofs.RenewedClasses.{counted_one}
use Rattle.path_classes.proofs.Tops.{above_below}
use Rattle.path_classes.proofs.Touched.{AreBoth, LiesInside, had, has as has_class, label_has, same_search, same_answers, all_counted, all_within}

-- the same paths with values of their numbers
abbrev valued : (ℕ → ℕ) → Numbers → Numbers
valued g es = map {B = PathOf × ℕ} (λ e. (e.0, g e.1)) es

-- ---- one path alone has a number

one_here : (n m : ℕ) → (m == n) ≡ true → one_if n m ≡ 1
one_here n m same = ap (λ b. if b then 1 else 0) same

itself : (n : ℕ) → (n == n) ≡ true
itself n = from_T (n == n) (eqb_refl n)

module _ (p : PathOf) (n : ℕ) where
  -- a number that is found is counted
  pub found_some : (es : Numbers) → find path_cmp p es ≡ Some n → 1 ≤ paths_with n es
  found_some [] found = cc
  found_some (e ∷ es) found = by (is_eq (path_cmp p e.0)) found (found_some es)
    where
      by : (b : Bool) → cond b (Some e.1) (find path_cmp p es) ≡ Some n → (find path_cmp p es ≡ Some n → 1 ≤ paths_with n es) → 1 ≤ one_if n e.1 + paths_with n es
      by true h more =
          let same : e.1 ≡ n = cc in
          let one : one_if n e.1 ≡ 1 = one_here n e.1 (ap (λ m. m == n) same ∙ itself n) in
          omega (arith, one)
      by false h more = let le = more h in omega (arith, le)

  -- no other path has it
  none_with : (es : Numbers) → paths_with n es ≤ 0 → AllByRecursion (λ (e : PathOf × ℕ). (e.1 == n) ≡ false) es
  none_with [] few = tt
  none_with (e ∷ es) few = (by (e.1 == n) refl, none_with es (omega (arith, few)))
    where
      by : (b : Bool) → (e.1 == n) ≡ b → (e.1 == n) ≡ false
      by false apart = apart
      by true same = let one = one_here n e.1 same in absurd (omega (arith, few, one))

  pub only_path : (es : Numbers) → find path_cmp p es ≡ Some n → paths_with n es ≤ 1 → AllByRecursion (λ (e : PathOf × ℕ). (e.1 == n) ≡ true → e.0 ≡ p) es
  only_path [] found few = tt
  only_path (e ∷ es) found few = by (is_eq (path_cmp p e.0)) refl found (only_path es)
    where
      never : (b : Bool) → b ≡ false → b ≡ true → e.0 ≡ p
      never b h k = cc

      by : (b : Bool) → is_eq (path_cmp p e.0) ≡ b → cond b (Some e.1) (find path_cmp p es) ≡ Some n
          → (find path_cmp p es ≡ Some n → paths_with n es ≤ 1 → AllByRecursion (λ (e : PathOf × ℕ). (e.1 == n) ≡ true → e.0 ≡ p) es)
          → AllByRecursion (λ (e : PathOf × ℕ). (e.1 == n) ≡ true → e.0 ≡ p) (e ∷ es)
      by true here h more =
          let same : e.1 ≡ n = cc in
          let one : one_if n e.1 ≡ 1 = one_here n e.1 (ap (λ m. m == n) same ∙ itself n) in (
            (λ k. sym (exact_paths p e.0 (is_equal (path_cmp p e.0) here))),
            all_weaker (λ (e : PathOf × ℕ). (e.1 == n) ≡ false) (λ (e : PathOf × ℕ). (e.1 == n) ≡ true → e.0 ≡ p) (λ e apart same. absurd (not_both (e.1 == n) same apart)) es
                (none_with es (omega (arith, few, one))),
          )
      by false here h more =
          let le = found_some es h in (
            never (e.1 == n) (apart (e.1 == n) refl le),
            more h (omega (arith, few)),
          )
        where
          apart : (b : Bool) → (e.1 == n) ≡ b → 1 ≤ paths_with n es → (e.1 == n) ≡ false
          apart false is le = is
          apart true is le = let one = one_here n e.1 is in absurd (omega (arith, few, one, le))

  -- ---- a number is put at the path

  module _ (kind : ℕ) (g : ℕ → ℕ) where
    -- the numbers' values, where that of this number is another one
    abbrev value : ℕ → ℕ
    value m = if m == n then kind else g m

    none_changed : (es : Numbers) → AllByRecursion (λ (e : PathOf × ℕ). (e.1 == n) ≡ false) es → valued g es ≡ valued value es
    none_changed [] h = refl
    none_changed (e ∷ es) h = λ i. (e.0, if sym h.0 i then kind else g e.1) ∷ none_changed es h.1 i

    before_all : (e : PathOf × ℕ) (es : Numbers) → path_cmp p e.0 ≡ Less → IsTrue (below_all path_cmp e.0 es) → find path_cmp p es ≡ None
    before_all e [] lt b = refl
    before_all e (f ∷ es) lt b =
        let parts = and_parts (is_lt (path_cmp e.0 f.0)) (below_all path_cmp e.0 es) b in
        let less : path_cmp p f.0 ≡ Less = path_total.trans p e.0 f.0 lt (is_less (path_cmp e.0 f.0) parts.0) in
        ap (λ o. cond (is_eq o) (Some f.1) (find path_cmp p es)) less ∙ before_all e es lt parts.1

    pub put_changed : (es : Numbers) → IsInOrder es → find path_cmp p es ≡ Some n → paths_with n es ≤ 1
        → put path_cmp p kind (valued g es) ≡ valued value es
    put_changed [] order found few = cc
    put_changed (e ∷ es) order found few =
        let parts = and_parts (below_all path_cmp e.0 es) (is_sorted path_cmp es) order in
        by (path_cmp p e.0) refl found parts.0 (put_changed es parts.1)
      where
        apart : (b : Bool) → (e.1 == n) ≡ b → 1 ≤ paths_with n es → (e.1 == n) ≡ false
        apart false is le = is
        apart true is le = let one = one_here n e.1 is in absurd (omega (arith, few, one, le))

        by : (o : Ordering) → path_cmp p e.0 ≡ o → cond (is_eq o) (Some e.1) (find path_cmp p es) ≡ Some n → IsTrue (below_all path_cmp e.0 es)
            → (find path_cmp p es ≡ Some n → paths_with n es ≤ 1 → put path_cmp p kind (valued g es) ≡ valued value es)
            → by_order o ((p, kind) ∷ (e.0, g e.1) ∷ valued g es) ((e.0, kind) ∷ valued g es) ((e.0, g e.1) ∷ put path_cmp p kind (valued g es)) ≡ (e.0, value e.1) ∷ valued value es
        by Less is h b more = let no : None ≡ Some n = sym (before_all e es is b) ∙ h in cc
        by Equal is h b more =
            let same : e.1 ≡ n = cc in
            let here : (e.1 == n) ≡ true = ap (λ m. m == n) same ∙ itself n in
            let one : one_if n e.1 ≡ 1 = one_here n e.1 here in
            let others : valued g es ≡ valued value es = none_changed es (none_with es (omega (arith, few, one))) in
            λ i. (e.0, if sym here i then kind else g e.1) ∷ others i
        by Greater is h b more =
            let le = found_some es h in
            let other : (e.1 == n) ≡ false = apart (e.1 == n) refl le in
            let others : put path_cmp p kind (valued g es) ≡ valued value es = more h (omega (arith, few)) in
            λ i. (e.0, if sym other i then kind else g e.1) ∷ others i

-- those that have a number are counted
pub own_count : (n : ℕ) (es : Numbers) → count_by (λ (e : PathOf × ℕ). e.1 == n) es ≡ paths_with n es
own_count n [] = refl
own_count n (e ∷ es) =
    let more = own_count n es in
    let sum = sum_by-cons (λ (e : PathOf × ℕ). cond (e.1 == n) 1 0) e es in
    omega (arith, more, sum)

-- ---- rows with one path put

none_gone : (W : Type 0) (es : Numbers) → without_all {W = W} [] es ≡ es
none_gone W [] = refl
none_gone W (e ∷ es) = ap (λ l. e ∷ l) (none_gone W es)

abbrev KeepsRow : (old new : Kept LabelRow) → PathOf × ℕ → Type 0
KeepsRow old new e = node_at new.0 e.1 ≡ node_at old.0 e.1

module _ {V : Type 0} (old new : Kept LabelRow) (p : PathOf) (v : V) where
  others_kept : (es : Numbers) → AllByRecursion (KeepsRow old new) (without_all ((p, v) ∷ []) es) → AllByRecursion (λ (e : PathOf × ℕ). is_eq (path_cmp e.0 p) ≡ false → KeepsRow old new e) es
  others_kept [] h = tt
  others_kept (e ∷ es) h = by (is_eq (path_cmp e.0 p)) refl h (others_kept es)
    where
      by : (b : Bool) → is_eq (path_cmp e.0 p) ≡ b
          → AllByRecursion (KeepsRow old new) (cond (not (is_some (cond b (Some v) None))) (e ∷ without_all ((p, v) ∷ []) es) (without_all ((p, v) ∷ []) es))
          → (AllByRecursion (KeepsRow old new) (without_all ((p, v) ∷ []) es) → AllByRecursion (λ (e : PathOf × ℕ). is_eq (path_cmp e.0 p) ≡ false → KeepsRow old new e) es)
          → AllByRecursion (λ (e : PathOf × ℕ). is_eq (path_cmp e.0 p) ≡ false → KeepsRow old new e) (e ∷ es)
      by true here h more = ((λ apart. absurd (not_both (is_eq (path_cmp e.0 p)) here apart)), more h)
      by false apart h more = ((λ _. h.0), more h.1)

  -- one path is put, and none is gone
  pub puts_row : {W : Type 0} → PutsRows {W = W} old ((p, v) ∷ []) [] new → PutsRow old p new
  puts_row {W = W} r = by r.puts refl r.paths
    where
      kept : AllByRecursion (λ (e : PathOf × ℕ). is_eq (path_cmp e.0 p) ≡ false → KeepsRow old new e) old.1
      kept = others_kept old.1 (subst (λ (es : Numbers). AllByRecursion (KeepsRow old new) (without_all ((p, v) ∷ []) es)) (none_gone W old.1) r.kept)

      by : (puts : Numbers) → r.puts ≡ puts → paths_of puts ≡ p ∷ [] → PutsRow old p new
      by [] is paths = cc
      by (a ∷ b ∷ puts) is paths = cc
      by (a ∷ []) is paths =
          let path : a.0 ≡ p = cc in
          record {
            number = a.1;
            numbers = r.numbers ∙ ap (λ ps. merged {W = W} ps [] old.1) is ∙ ap (put path_cmp a.0 a.1) (none_gone W old.1) ∙ ap (λ q. put path_cmp q a.1 old.1) path;
            kept = kept;
          }

-- a list of one item, and one of none
pub one_item : {A : Type 0} (xs : List A) (x : A) → length xs ≡ 1 → x ≡ get_or xs 0 x → xs ≡ x ∷ []
one_item [] x long is = cc
one_item (y ∷ []) x long is = ap (λ z. z ∷ []) (sym is)
one_item (y ∷ z ∷ xs) x long is = absurd (omega (arith, long))

pub no_item : {A : Type 0} (xs : List A) → length xs ≡ 0 → xs ≡ []
no_item [] long = refl
no_item (y ∷ xs) long = absurd (omega (arith, long))

-- ---- the class of the path gets the label

module _ (old new : Kept LabelRow) (before : Kept PathClass) (sound : AreSound before.0 before.1) (sound_new : AreSound new.0 new.1) (were : AreClasses old before) (p : PathOf) (r : PutsRow old p new)
    (n kind : ℕ) (own : IsOwnClass before p n) (label : find path_cmp p new.1 ≡ Some kind) where
  abbrev label_at : ℕ → ℕ
  label_at m = if m == n then kind else kind_at before.0 m

  alone : paths_with n before.1 ≡ 1
  alone = sym (sound.counted n) ∙ own.alone

  pub label_is : kind ≡ r.number
  label_is =
      some_is (find path_cmp p new.1) kind r.number label
      (ap (find path_cmp p) r.numbers ∙ find-put path_cmp path_total p p r.number old.1 ∙ ap (λ o. cond (is_eq o) (Some r.number) (find path_cmp p old.1)) (tied_itself path_total p))

  numbers_now : new.1 ≡ valued label_at before.1
  numbers_now =
      r.numbers ∙ (λ i. put path_cmp p (sym label_is i) (sym were.kinds i))
      ∙ put_changed p n kind (kind_at before.0) before.1 sound.order own.found (let one = alone in omega (arith, one))

  kind_of : (m : ℕ) (c : PathClass) → node_at before.0 m ≡ Some c → kind_at before.0 m ≡ c.kind
  kind_of m c is = ap (λ o. option_map_or (λ (c : PathClass). c.kind) o 0) is

  label_of_other : (m : ℕ) (c : PathClass) → node_at before.0 m ≡ Some c → (m == n) ≡ false → label_at m ≡ c.kind
  label_of_other m c is apart = ap (λ b. if b then kind else kind_at before.0 m) apart ∙ kind_of m c is

  -- a path of another class is another path
  other_path : (q : PathOf) (m : ℕ) → find path_cmp q before.1 ≡ Some m → (m == n) ≡ false → is_eq (path_cmp q p) ≡ false
  other_path q m found apart = by (is_eq (path_cmp q p)) refl
    where
      by : (b : Bool) → is_eq (path_cmp q p) ≡ b → is_eq (path_cmp q p) ≡ false
      by false other = other
      by true here =
          let path : q ≡ p = exact_paths q p (is_equal (path_cmp q p) here) in
          let same : m ≡ n = some_is (find path_cmp q before.1) m n found (ap (λ z. find path_cmp z before.1) path ∙ own.found) in
          absurd (not_both (m == n) (ap (λ k. k == n) same ∙ itself n) apart)

  same_row : (m : ℕ) (c : PathClass) → 0 < count_at before.0 m → node_at before.0 m ≡ Some c → (m == n) ≡ false → node_at new.0 c.kind ≡ node_at old.0 c.kind
  same_row m c used is apart =
      let one =
      counted_one (λ (e : PathOf × ℕ). find path_cmp e.0 before.1 ≡ Some e.1) m before.1 (among_all before.1 sound.order) (let e = sound.counted m in omega (arith, used, e)) in
      let label_old : find path_cmp one.0 old.1 ≡ Some c.kind =
      ap (find path_cmp one.0) (sym were.kinds) ∙ find-values (kind_at before.0) one.0 before.1 ∙ ap (option_map (kind_at before.0)) one.1 ∙ ap Some (kind_of m c is) in
      all_found (λ (e : PathOf × ℕ). is_eq (path_cmp e.0 p) ≡ false → node_at new.0 e.1 ≡ node_at old.0 e.1) one.0 old.1 c.kind r.kept label_old (other_path one.0 m one.1 apart)

  pub are_relabelled : AreRelabelled before n kind new
  are_relabelled = record {
    old = old;
    were = were;
    used = (let one = own.alone in omega (arith, one));
    relabels = record {
      numbers = numbers_now;
      there = all_found (λ (e : PathOf × ℕ). IsNode new.0 e.1) p new.1 kind sound_new.used label;
      same = same_row;
    };
  }

  -- the path alone has the class
  pub own_inside : AllInside (n ∷ []) (p ∷ []) before.1
  own_inside =
      all_weaker (λ (e : PathOf × ℕ). (e.1 == n) ≡ true → e.0 ≡ p) (λ (e : PathOf × ℕ). is_one e.1 (n ∷ []) ≡ true → is_inside (p ∷ []) e.0 ≡ true)
      (λ e only one. inside_itself e.0 (only (turned e.1 (n == e.1) refl one))) before.1
      (only_path p n before.1 own.found (let one = alone in omega (arith, one)))
    where
      inside_itself : (q : PathOf) → q ≡ p → is_inside (p ∷ []) q ≡ true
      inside_itself q same = ap (λ z. is_inside (p ∷ []) z) same ∙ ap (λ b. b || false) (within_itself p)

      turned : (m : ℕ) (b : Bool) → (n == m) ≡ b → (b || false) ≡ true → (m == n) ≡ true
      turned m true same h = ap (λ k. m == k) (eqb→eq n m (to_T (n == m) same)) ∙ itself m
      turned m false apart h = cc

  -- ---- the count

  module _ (order_old : IsInOrder (entries_in old)) (order_new : IsInOrder (entries_in new)) (sound_old : AreSound old.0 old.1) (classes : Kept PathClass) (are : AreClasses new classes)
      (paths : classes.1 ≡ before.1) (changed : List ℕ) (search : (m : ℕ) → is_one m changed ≡ false → search_at classes.0 m ≡ search_at before.0 m)
      (all : AllInside changed (p ∷ []) before.1) where
    both : AreBoth old new before classes
    both = record { sound_old = sound_old; sound_new = sound_new; order_old = order_old; order_new = order_new; order = sound.order; were = were; are = are; paths = paths }

    module _ (q : PathOf) (m : ℕ) (found : find path_cmp q before.1 ≡ Some m) where
      abbrev class_had : PathClass
      class_had = (had old new before classes both q m found).class

      abbrev class_has : PathClass
      class_has = (has_class old new before classes both q m found).class

      or_false : (a b : Bool) → (a || b) ≡ false → (a ≡ false) × (b ≡ false)
      or_false true b h = cc
      or_false false b h = (refl, h)

      kind_still : (m == n) ≡ false → class_has.kind ≡ class_had.kind
      kind_still apart =
          some_is (find path_cmp q new.1) class_has.kind class_had.kind (label_has old new before classes both q m found)
          (ap (find path_cmp q) numbers_now ∙ find-values label_at q before.1 ∙ ap (option_map label_at) found
          ∙ ap Some (label_of_other m class_had (had old new before classes both q m found).is apart))

      untouched : ((m == n) || is_below_some changed class_has) ≡ false → SameAnswers old new q
      untouched h =
          let outs = or_false (m == n) (is_below_some changed class_has) h in
          let used : 0 < count_at before.0 m = let some = found_some q m before.1 found in let e = sound.counted m in omega (arith, some, e) in
          same_answers old new before classes both q m found (kind_still outs.0)
          (ap (option_map (λ (x : LabelRow). x.row)) (same_row m class_had used (had old new before classes both q m found).is outs.0))
          (same_search old new before classes both q m found changed search outs.1)

      -- what is right below a class that changed is below the path
      above_is : (above : Option ℕ) → class_has.above ≡ above → option_map_or (λ a. is_one a changed) above false ≡ true
          → (is_inside (p ∷ []) q ≡ true) × ((q ≡ p) → ⊥)
      above_is None is h = cc
      above_is (Some a) is h =
          let up : class_above q before.1 ≡ Some a = ap (class_above q) (sym paths) ∙ sym (has_class old new before classes both q m found).above ∙ is in
          let top = nearest_inside (p ∷ []) changed before.1 all q a up h in (
            above_inside (p ∷ []) changed before.1 all q a up h,
            λ same.
                not_both (is_above p p)
                (above_below p top.0.0 p (within (encloses p top.0.0) top.1.0) (ap (is_above top.0.0) (sym same) ∙ top.1.1)) (not_below_itself p),
          )
        where
          within : (b : Bool) → (b || false) ≡ true → b ≡ true
          within true h = refl
          within false h = cc

      is_path : (m == n) ≡ true → q ≡ p
      is_path same =
          all_found (λ (e : PathOf × ℕ). (e.1 == n) ≡ true → e.0 ≡ p) q before.1 m (only_path p n before.1 own.found (let one = alone in omega (arith, one))) found same

      lies_inside : LiesInside classes.0 (λ m. m == n) (is_below_some changed) (p ∷ []) (q, m)
      lies_inside = record {
        class = class_has;
        is = (has_class old new before classes both q m found).is;
        mine = λ same. ap (λ z. is_inside (p ∷ []) z) (is_path same) ∙ ap (λ b. b || false) (within_itself p);
        others = λ h. (above_is class_has.above refl h).0;
        apart = λ same. by (is_path same) (is_below_some changed class_has) refl;
      }
        where
          by : q ≡ p → (b : Bool) → is_below_some changed class_has ≡ b → is_below_some changed class_has ≡ false
          by path false h = h
          by path true h = absurd ((above_is class_has.above refl h).1 path)

    module _ (count : ℕ) (is : count ≡ count_by (λ (e : PathOf × PathClass). is_below_some changed e.1) (entries_in classes)) where
      sum_is : count_by (λ (e : PathOf × ℕ). e.1 == n) before.1 + count_by (λ (e : PathOf × PathClass). is_below_some changed e.1) (entries_in classes) ≡ count + 1
      sum_is = let one = own_count n before.1 in let two = alone in omega (arith, one, two, is)

      pub file_counted : AreCounted old new (count + 1)
      file_counted = subst (AreCounted old new) sum_is (all_counted old new before classes both (λ m. m == n) (is_below_some changed) untouched)

      pub file_within : count + 1 ≤ length (inside (p ∷ []) new.1)
      file_within = subst (λ k. k ≤ length (inside (p ∷ []) new.1)) sum_is (all_within old new before classes both (λ m. m == n) (is_below_some changed) (p ∷ []) lies_inside)
