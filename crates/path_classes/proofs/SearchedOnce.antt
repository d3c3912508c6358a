-- Who can search down to classes, each of which is searched again once, after the one above it.
use Rattle.std.proofs.Common.{◌≡◌, ℕ, ◌+◌, ◌<◌, ◌≤◌, ◌&&◌, ◌||◌, not, Bool, true, false, eqb, List, [], ◌∷◌, ◌++◌, length, drop, get_or, is_some, Option, Some, None}
use Rattle.std.proofs.Common.{refl, sym, ap, subst, ◌∙◌, arith, add-one, append-nil, drop-cons}
use Rattle.std.proofs.Math.Dec.{eqb→eq}
use Rattle.std.specs.Prelude.{IfSome, ◌==◌, if◌then◌else◌}
use Rattle.std.specs.List.{AllByRecursion, list_any}
use Rattle.std.proofs.lemmas.List.{drop-append-le, drop_all}
use Rattle.std.proofs.lemmas.List.Folds.{list_any-append}
use Rattle.acl_names.proofs.Basics.{to_T, all_end}
use Rattle.kinds.specs.Kinds.{KindsOf, node_at, count_at}
use Rattle.kinds.specs.Renumbered.{Replaces}
use Rattle.path_classes.specs.declared.label_row.LabelRow.{LabelRow}
use Rattle.path_classes.specs.declared.path_class.PathClass.{PathClass}
use Rattle.path_classes.specs.PathClasses.{ClassKinds}
use Rattle.path_classes.specs.Renewing.{is_one, IsSearch, IsFresh, AreLinked, shape_at, IsAgain, IsFreshAt, IsLinkedAt, AreSearched, AreRenewed, Marks, is_marked_above, is_next, IsOnce, SearchesOne}
use Rattle.path_classes.proofs.ClassTags.{eqb_swap}
use Rattle.path_classes.proofs.Renewals.{not_both, shape_of, linked_shaped, is_new, at_other, shapes_still, fresh_still}

-- one in front is one at the end
one_moved : (n m : ℕ) (ns : List ℕ) → is_one m (n ∷ ns) ≡ true → is_one m (ns ++ n ∷ []) ≡ true
one_moved n m ns h = list_any-append (λ i. eqb i m) ns (n ∷ []) ∙ turn (is_one m ns) (eqb n m) h
  where
    turn : (a b : Bool) → (b || a) ≡ true → (a || (b || false)) ≡ true
    turn true b h = refl
    turn false true h = refl
    turn false false h = h

-- a class that is next is there
next_is : (marks : List Bool) (n : ℕ) (o : Option PathClass) → is_next marks n o ≡ true → (c : PathClass) × (o ≡ Some c)
next_is marks n None h = cc
next_is marks n (Some c) h = (c, refl)

-- a class that is as before takes the place of itself
takes_itself : (k : ClassKinds) (n : ℕ) (c : PathClass) → node_at k n ≡ Some c → Replaces k c n k
takes_itself k n c is = record { nodes = λ m. by m (m == n) refl; counts = λ m. refl }
  where
    by : (m : ℕ) (b : Bool) → (m == n) ≡ b → node_at k m ≡ (if b then Some c else node_at k m)
    by m true here = ap (node_at k) (eqb→eq m n (to_T (m == n) here)) ∙ is
    by m false apart = refl

-- ---- the first class that waits

module _ (rows : KindsOf LabelRow) (before k : ClassKinds) (marks : List Bool) (n : ℕ) (rest : List ℕ) (o : IsOnce rows before k marks (n ∷ rest)) where
  -- it waits after the others
  once_later : IsOnce rows before k marks (rest ++ n ∷ [])
  once_later = record {
    counts = o.counts;
    shapes = o.shapes;
    fresh = o.fresh;
    above = o.above;
    all = λ m c used is some out. one_moved n m rest (o.all m c used is some out);
    used = all_end (λ m. 0 < count_at before m) rest n o.used.1 o.used.0;
  }

  -- it is searched again and marked
  module _ (x : PathClass) (a : IsAgain rows k n x) (next : is_next marks n (node_at k n) ≡ true) (more : List Bool) (put : Marks marks n more)
      (new : ClassKinds) (r : Replaces k x n new) where
    both : (get_or marks n false ≡ false) × (is_marked_above marks a.class.above ≡ true)
    both = split (get_or marks n false) (is_marked_above marks a.class.above) (sym (ap (is_next marks n) a.is) ∙ next)
      where
        split : (b c : Bool) → (not b && c) ≡ true → (b ≡ false) × (c ≡ true)
        split true c h = cc
        split false c h = (refl, h)

    -- it is right above no class whose class above is marked
    apart_from : (above : Option ℕ) → is_marked_above marks above ≡ true → above ≡ Some n → ⊥
    apart_from above up is = not_both (get_or marks n false) (sym (ap (is_marked_above marks) is) ∙ up) both.0

    up_again : is_marked_above marks x.above ≡ true
    up_again = ap (is_marked_above marks) (ap (λ s. s.1.0) a.shape) ∙ both.1

    marked_still : (m : ℕ) → get_or marks m false ≡ true → get_or more m false ≡ true
    marked_still m h = put m ∙ by (m == n)
      where
        by : (b : Bool) → (if b then true else get_or marks m false) ≡ true
        by true = refl
        by false = h

    above_still : (above : Option ℕ) → is_marked_above marks above ≡ true → is_marked_above more above ≡ true
    above_still None h = refl
    above_still (Some m) h = marked_still m h

    marked_other : (m : ℕ) (b : Bool) → eqb m n ≡ false → get_or more m false ≡ b → get_or marks m false ≡ b
    marked_other m b apart h = sym (put m ∙ ap (λ c. if c then true else get_or marks m false) apart) ∙ h

    fresh_next : (m : ℕ) (c : PathClass) → node_at new m ≡ Some c → get_or more m false ≡ true → IsFresh rows new c
    fresh_next m c is mark = by (eqb m n) refl
      where
        by : (b : Bool) → eqb m n ≡ b → IsFresh rows new c
        by true here = subst (IsFresh rows new) (is_new k n x new r m c here is) (fresh_still k n x new r rows x (apart_from x.above up_again) a.fresh)
        by false apart =
            let was : node_at k m ≡ Some c = sym (at_other k n x new r m apart) ∙ is in
            let had : get_or marks m false ≡ true = marked_other m true apart mark in
            fresh_still k n x new r rows c (apart_from c.above (o.above m c was had)) (o.fresh m c was had)

    above_next : (m : ℕ) (c : PathClass) → node_at new m ≡ Some c → get_or more m false ≡ true → is_marked_above more c.above ≡ true
    above_next m c is mark = by (eqb m n) refl
      where
        by : (b : Bool) → eqb m n ≡ b → is_marked_above more c.above ≡ true
        by true here = subst (λ (d : PathClass). is_marked_above more d.above ≡ true) (is_new k n x new r m c here is) (above_still x.above up_again)
        by false apart = above_still c.above (o.above m c (sym (at_other k n x new r m apart) ∙ is) (marked_other m true apart mark))

    once_more : IsOnce rows before new more rest
    once_more = record {
      counts = λ m. r.counts m ∙ o.counts m;
      shapes = λ m. shapes_still k n x new r a.class a.is a.shape m ∙ o.shapes m;
      fresh = fresh_next;
      above = above_next;
      all = λ m c used is some out. by m c used is some out (eqb m n) refl;
      used = o.used.1;
    }
      where
        by : (m : ℕ) (c : PathClass) → 0 < count_at before m → node_at before m ≡ Some c → is_some c.search ≡ true → get_or more m false ≡ false → (b : Bool) → eqb m n ≡ b
            → is_one m rest ≡ true
        by m c used is some out true here = absurd (not_both (get_or more m false) (put m ∙ ap (λ b. if b then true else get_or marks m false) here) out)
        by m c used is some out false apart =
            sym (ap (λ b. b || list_any (λ i. eqb i m) rest) (eqb_swap n m ∙ apart)) ∙ o.all m c used is some (marked_other m false apart out)

-- ---- one step

module _ (rows : KindsOf LabelRow) (old : ClassKinds) (n : ℕ) (marks : List Bool) (waiting : List ℕ) where
  pub searches_later : (more_waiting : List ℕ) → more_waiting ≡ waiting ++ n ∷ [] → SearchesOne rows old n marks waiting marks more_waiting old
  searches_later more_waiting pushed = record { later = n ∷ []; pushed = pushed; once = λ before rest o. once_later rows before old marks n rest o }

  module _ (next : is_next marks n (node_at old n) ≡ true) (more : List Bool) (put : Marks marks n more) where
    pub searches_other : (x : PathClass) → IsAgain rows old n x → (new : ClassKinds) → Replaces old x n new → SearchesOne rows old n marks waiting more waiting new
    searches_other x a new r = record {
      later = [];
      pushed = sym (append-nil waiting);
      once = λ before rest o. subst (IsOnce rows before new more) (sym (append-nil rest)) (once_more rows before old marks n rest o x a next more put new r);
    }

    pub searches_same : IsFreshAt rows old n → SearchesOne rows old n marks waiting more waiting old
    searches_same own =
        let c = next_is marks n (node_at old n) next in
        searches_other c.0 (record { class = c.0; is = c.1; shape = refl; fresh = own c.0 c.1 }) old (takes_itself old n c.0 c.1)

-- ---- all classes

pub once_first : (rows : KindsOf LabelRow) (before k : ClassKinds) (marks : List Bool) (waiting all : List ℕ) → k ≡ before → marks ≡ [] → waiting ≡ all → AreSearched before all
    → IsOnce rows before k marks waiting
once_first rows before k marks waiting all same none copied s = record {
  counts = λ n. ap (λ (l : ClassKinds). count_at l n) same;
  shapes = λ n. ap (λ (l : ClassKinds). shape_at l n) same;
  fresh = λ n c is mark. absurd (unmarked n mark);
  above = λ n c is mark. absurd (unmarked n mark);
  all = λ n c used is some out. ap (is_one n) copied ∙ s.all n c used is some;
  used = subst (AllByRecursion (λ n. 0 < count_at before n)) (sym copied) s.used;
}
  where
    unmarked : (n : ℕ) → get_or marks n false ≡ true → ⊥
    unmarked n mark = not_both (get_or marks n false) mark (ap (λ l. get_or l n false) none)

-- the same of the loop, by what it reads and what it writes
module _ (rows : KindsOf LabelRow) (before old : ClassKinds) (linked : AreLinked rows before) (marks : List Bool) (waiting : List ℕ) (at n : ℕ) (lt : at < length waiting)
    (read : n ≡ get_or waiting at n) (w : IsOnce rows before old marks (drop at waiting)) where
  abbrev first : IsOnce rows before old marks (n ∷ drop (at + 1) waiting)
  first = subst (IsOnce rows before old marks) (drop-cons waiting at n lt ∙ (λ i. sym read i ∷ drop (sym (add-one at) i) waiting)) w

  pub once_linked : IsLinkedAt rows old n
  once_linked c is = linked_shaped rows before old first.shapes linked first.counts n c (let e = first.counts n in let used = first.used.0 in omega (arith, e, used)) is

  pub once_step : (more : List Bool) (more_waiting : List ℕ) (new : ClassKinds) → SearchesOne rows old n marks waiting more more_waiting new → IsOnce rows before new more (drop (at + 1) more_waiting)
  once_step more more_waiting new r =
      let le : at + 1 ≤ length waiting = omega (arith, lt) in
      subst (IsOnce rows before new more) (sym (ap (drop (at + 1)) r.pushed ∙ drop-append-le (at + 1) waiting r.later le)) (r.once before (drop (at + 1) waiting) first)

-- a class that keeps nothing is fresh
unsearched : (rows : KindsOf LabelRow) (k : ClassKinds) (c : PathClass) → (is_some c.search ≡ true → ⊥) → IsFresh rows k c
unsearched rows k c none = by c.search none
  where
    by : (o : Option (List Bool)) → (is_some o ≡ true → ⊥) → IfSome o (IsSearch rows k c)
    by None h = tt
    by (Some s) h = absurd (h refl)

-- no class waits
pub once_all : (rows : KindsOf LabelRow) (before k : ClassKinds) (marks : List Bool) (waiting : List ℕ) (at : ℕ) → length waiting ≤ at → IsOnce rows before k marks (drop at waiting)
    → AreRenewed rows before k
once_all rows before k marks waiting at past w = record { counts = o.counts; shapes = o.shapes; fresh = λ n c used is. by n c used is (get_or marks n false) refl }
  where
    o : IsOnce rows before k marks []
    o = subst (IsOnce rows before k marks) (drop_all at waiting past) w

    searched : (n : ℕ) (c : PathClass) → 0 < count_at k n → node_at k n ≡ Some c → get_or marks n false ≡ false → is_some c.search ≡ true → ⊥
    searched n c used is out some =
        let d = shape_of k before o.shapes n c is in
        let kept : is_some d.0.search ≡ true = sym (ap (λ s. s.1.1.1) d.1.1) ∙ some in
        let waits : false ≡ true = o.all n d.0 (let e = o.counts n in omega (arith, used, e)) d.1.0 kept out in
        cc

    by : (n : ℕ) (c : PathClass) → 0 < count_at k n → node_at k n ≡ Some c → (b : Bool) → get_or marks n false ≡ b → IsFresh rows k c
    by n c used is true mark = o.fresh n c is mark
    by n c used is false out = unsearched rows k c (searched n c used is out)
