-- Rows of the same paths, where the verdicts on some labels are others.
use Rattle.std.proofs.Common.{◌≡◌, ℕ, ◌+◌, ◌<◌, ◌≤◌, Bool, true, false, ◌||◌, ◌&&◌, List, [], length, is_some, Option, Some, None, refl, sym, ap, subst, ◌∙◌, arith}
use Rattle.std.specs.Prelude.{count_by}
use Rattle.std.specs.Option.{option_map_or, unwrap_or}
use Rattle.std.specs.FinMap.{find}
use Rattle.acl_names.specs.Paths.{path_cmp, PathOf}
use Rattle.kinds.specs.Given.{used_at}
use Rattle.kinds.specs.Kinds.{node_at, count_at}
use Rattle.kinds.specs.Numbered.{Kept, AreSound, entries_in}
use Rattle.kinds.proofs.Chosen.{among_all}
use Rattle.kinds.proofs.EntriesBy.{all_weaker}
use Rattle.path_classes.specs.declared.label_row.LabelRow.{LabelRow}
use Rattle.path_classes.specs.declared.path_class.PathClass.{PathClass}
use Rattle.path_classes.specs.ClassedRows.{SameAnswers, AreCounted, ChangesRows, AllInside}
use Rattle.path_classes.specs.ClassesWithin.{is_inside, inside}
use Rattle.path_classes.specs.FoundClasses.{is_below_some, is_touched, is_searched_of}
use Rattle.path_classes.specs.PathClasses.{kept_search, kind_at}
use Rattle.path_classes.specs.Renewing.{is_one}
use Rattle.path_classes.proofs.ClassTags.{used_is}
use Rattle.path_classes.proofs.Growing.{some_is}
use Rattle.path_classes.proofs.Inside.{above_inside}
use Rattle.path_classes.proofs.Reaching.{all_found}
use Rattle.path_classes.proofs.RelabelledFile.{found_some}
use Rattle.path_classes.proofs.Touched.{AreBoth, LiesInside, count_none, had, has, label_had, label_has, same_above, same_search, same_answers, all_counted, all_within}

pub or_false : (a b : Bool) → (a || b) ≡ false → (a ≡ false) × (b ≡ false)
or_false true b h = cc
or_false false b h = (refl, h)

-- paths keep the numbers of their labels: so do classes
pub kind_stays : (old new : Kept LabelRow) (before classes : Kept PathClass) (b : AreBoth old new before classes) → new.1 ≡ old.1 → (p : PathOf) (n : ℕ) (found : find path_cmp p before.1 ≡ Some n)
    → (has old new before classes b p n found).class.kind ≡ (had old new before classes b p n found).class.kind
kind_stays old new before classes b numbers p n found =
    some_is (find path_cmp p new.1) (has old new before classes b p n found).class.kind (had old new before classes b p n found).class.kind
    (label_has old new before classes b p n found) (ap (find path_cmp p) numbers ∙ label_had old new before classes b p n found)

module _ (old new : Kept LabelRow) (before classes : Kept PathClass) (b : AreBoth old new before classes) (sound : AreSound before.0 before.1) (labels changed : List ℕ)
    (r : ChangesRows old labels new) (same : (n : ℕ) → is_one n changed ≡ false → node_at classes.0 n ≡ node_at before.0 n) where
  abbrev is_own : ℕ → Bool
  is_own n = is_touched before.0 labels changed n

  module _ (p : PathOf) (n : ℕ) (found : find path_cmp p before.1 ≡ Some n) where
    abbrev class_had : PathClass
    class_had = (had old new before classes b p n found).class

    abbrev class_has : PathClass
    class_has = (has old new before classes b p n found).class

    same_kind : class_has.kind ≡ class_had.kind
    same_kind = kind_stays old new before classes b r.numbers p n found

    here : used_at before.0 n ≡ Some class_had
    here =
        let used : 0 < count_at before.0 n = let some = found_some p n before.1 found in let e = sound.counted n in omega (arith, some, e) in
        used_is before.0 n class_had used (had old new before classes b p n found).is

    labelled : is_one (kind_at before.0 n) labels ≡ is_one class_had.kind labels
    labelled = ap (λ o. is_one (option_map_or (λ (c : PathClass). c.kind) o 0) labels) (had old new before classes b p n found).is

    below : option_map_or (is_below_some changed) (used_at before.0 n) false ≡ is_below_some changed class_had
    below = ap (λ o. option_map_or (is_below_some changed) o false) here

    -- a path whose class is not touched has the answers that it had
    untouched : (is_own n || false) ≡ false → SameAnswers old new p
    untouched h =
        let outs = or_false (is_one (kind_at before.0 n) labels) (option_map_or (is_below_some changed) (used_at before.0 n) false) (or_false (is_own n) false h).0 in
        same_answers old new before classes b p n found same_kind (r.same class_had.kind (sym labelled ∙ outs.0))
        (same_search old new before classes b p n found changed (λ m out. ap (λ (o : Option PathClass). unwrap_or (kept_search o) []) (same m out))
        (ap (λ above. option_map_or (λ a. is_one a changed) above false) (same_above old new before classes b p n found) ∙ sym below ∙ outs.1))

    module _ (tops : List PathOf) (inner : AllInside labels tops new.1) where
      inside_label : is_one class_had.kind labels ≡ true → is_inside tops p ≡ true
      inside_label =
          all_found (λ (e : PathOf × ℕ). is_one e.1 labels ≡ true → is_inside tops e.0 ≡ true) p new.1 class_had.kind inner
          (ap (find path_cmp p) r.numbers ∙ label_had old new before classes b p n found)

      module _ (all : AllInside changed tops before.1) where
        inside_above : (above : Option ℕ) → class_had.above ≡ above → option_map_or (λ a. is_one a changed) above false ≡ true → is_inside tops p ≡ true
        inside_above None is h = cc
        inside_above (Some a) is h = above_inside tops changed before.1 all p a (sym (had old new before classes b p n found).above ∙ is) h

        -- a path whose class is touched lies inside
        lies_inside : LiesInside classes.0 is_own (λ c. false) tops (p, n)
        lies_inside = record {
          class = class_has;
          is = (has old new before classes b p n found).is;
          mine = by (is_one (kind_at before.0 n) labels) refl;
          others = λ h. cc;
          apart = λ h. refl;
        }
          where
            by : (c : Bool) → is_one (kind_at before.0 n) labels ≡ c → (c || option_map_or (is_below_some changed) (used_at before.0 n) false) ≡ true → is_inside tops p ≡ true
            by true is h = inside_label (sym labelled ∙ is)
            by false is h = inside_above class_had.above refl (sym below ∙ h)

  -- classes of the labels have paths that lie inside
  pub waiting_inside : (waiting : List ℕ) → ((n : ℕ) → is_one n waiting ≡ is_searched_of labels (used_at before.0 n)) → (tops : List PathOf) → AllInside labels tops new.1
      → AllInside waiting tops before.1
  waiting_inside waiting exact tops inner =
      all_weaker (λ (e : PathOf × ℕ). find path_cmp e.0 before.1 ≡ Some e.1) (λ (e : PathOf × ℕ). is_one e.1 waiting ≡ true → is_inside tops e.0 ≡ true)
      (λ e found waits.
      inside_label e.0 e.1 found tops inner
      (second (is_some (class_had e.0 e.1 found).search) (is_one (class_had e.0 e.1 found).kind labels)
      (sym (ap (is_searched_of labels) (here e.0 e.1 found)) ∙ sym (exact e.1) ∙ waits)))
      before.1 (among_all before.1 b.order)
    where
      second : (a b : Bool) → (a && b) ≡ true → b ≡ true
      second true b h = h
      second false b h = cc

  module _ (count : ℕ) (is : count ≡ count_by (λ (e : PathOf × ℕ). is_own e.1) before.1) where
    sum_is : count_by (λ (e : PathOf × ℕ). is_own e.1) before.1 + count_by (λ (e : PathOf × PathClass). false) (entries_in classes) ≡ count
    sum_is = let none = count_none (entries_in classes) in omega (arith, none, is)

    pub rerowed_counted : AreCounted old new count
    rerowed_counted = subst (AreCounted old new) sum_is (all_counted old new before classes b is_own (λ c. false) untouched)

    pub rerowed_within : (tops : List PathOf) → AllInside labels tops new.1 → AllInside changed tops before.1 → count ≤ length (inside tops new.1)
    rerowed_within tops inner all =
        subst (λ n. n ≤ length (inside tops new.1)) sum_is
        (all_within old new before classes b is_own (λ c. false) tops (λ p n found. lies_inside p n found tops inner all))
