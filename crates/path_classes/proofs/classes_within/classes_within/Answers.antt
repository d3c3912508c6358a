use Rattle.std.proofs.Common.{◌++◌, ℕ, List, Option, map, sym, ap, subst, ◌∙◌}
use Rattle.std.proofs.lemmas.List.{map-append}
use Rattle.std.specs.Borrow.{Bor}
use Rattle.acl_names.specs.Paths.{PathOf}
use Rattle.acl_names.specs.Below.{encloses}
use Rattle.path_map.specs.Entries.{IsInOrder, seen}
use Rattle.path_map.proofs.Rows.{in_order-filter}
use Rattle.kinds.specs.Kinds.{KindsOf, node_at}
use Rattle.kinds.specs.Numbered.{Kept, Numbers, AreUsed}
use Rattle.path_classes.specs.declared.label_row.LabelRow.{LabelRow}
use Rattle.path_classes.specs.declared.path_class.PathClass.{PathClass}
use Rattle.path_classes.specs.ClassBuilding.{IsRightAbove, IsRightAt, AreRight, AreWalked, SameClassesBut}
use Rattle.path_classes.specs.PathClasses.{ClassKinds, class_above}
use Rattle.path_classes.specs.ClassesWithin.{paths_seen, outside}
use Rattle.path_classes.proofs.FoundWithin.{WalksTop, found_first, top_over, top_found, found_last, used_within}
use Rattle.path_classes.proofs.classes_within.classes_within.Goals as goal

pub loop-top-init : goal.loop-top-init
loop-top-init c =
    let rows : Kept LabelRow = c.args.rows.now in
    let before : Kept PathClass = c.args.before.now in
    let tops : List (Bor PathOf) = c.args.tops.now in
    record {
      found =
          found_first rows (outside (paths_seen tops) before.1) before.0 c.new-builder.result.classes tops (map seen c.new-made.result.items)
          (c.new-builder.ensures.classes ∙ c.in_ok-classes.ensures ∙ c.kinds-old.ensures.all) (ap (map seen) c.new-made.ensures.items);
      known = subst (AreRight rows.0 c.new-builder.result.classes) (sym c.new-builder.ensures.known) tt;
      begun = λ n x is out. ap (λ (k : ClassKinds). node_at k n) (c.new-builder.ensures.classes ∙ c.in_ok-classes.ensures ∙ c.kinds-old.ensures.all) ∙ is;
    }

pub walk-requires-clause-order : goal.walk-requires-clause-order
walk-requires-clause-order c =
    subst IsInOrder (sym c.within-below.ensures) (in_order-filter (λ e. encloses c.top-item.result.now e.0) c.numbers-numbers.result.now c.order_law.ensures)

pub walk-requires-clause-used : goal.walk-requires-clause-used
walk-requires-clause-used c =
    let rows : Kept LabelRow = c.args.rows.now in
    let used =
    subst (λ (k : KindsOf LabelRow). AreUsed k c.numbers-numbers.result.now) (sym c.kinds-kinds.ensures.all)
    (subst (AreUsed rows.0) (sym c.numbers-numbers.ensures.all) c.numbers-numbers.ensures.sound.used)
    in
    subst (AreUsed c.kinds-kinds.result.now) (sym c.within-below.ensures) (used_within c.kinds-kinds.result.now c.top-item.result.now c.numbers-numbers.result.now used)

pub walk-requires-clause-over : goal.walk-requires-clause-over
walk-requires-clause-over c =
    let rows : Kept LabelRow = c.args.rows.now in
    let before : Kept PathClass = c.args.before.now in
    subst (IsRightAbove c.kinds-kinds.result.now c.loop-top.builder.classes) (sym c.class_over-over.ensures)
    (top_over rows before c.numbers-numbers.ensures.sound.order c.args.tops.now c.loop-top.top-index c.top-item.result c.loop-top-test.true c.top-item.is c.requires.tops c.requires.fits
    c.kinds-kinds.result.now c.kinds-kinds.ensures.all c.numbers-paths.result.now c.numbers-paths.ensures.all c.loop-top.builder.classes (map seen c.loop-top.made.items) c.loop-top.invariant.found)

pub walk-requires-clause-known : goal.walk-requires-clause-known
walk-requires-clause-known c =
    subst (λ (k : KindsOf LabelRow). AreRight k c.loop-top.builder.classes c.loop-top.builder.known.items) (sym c.kinds-kinds.ensures.all) c.loop-top.invariant.known

pub loop-top-preserved : goal.loop-top-preserved
loop-top-preserved c =
    let rows : Kept LabelRow = c.args.rows.now in
    let before : Kept PathClass = c.args.before.now in
    let kinds = c.kinds-kinds.result.now in
    let top = c.top-item.result.now in
    let made = c.loop-top.made.items in
    let was = c.loop-top.builder.classes in
    let is = c.in_ok-next.next.classes in
    let own : Numbers = map seen c.in_ok-next.own.items in
    let walks : WalksTop kinds c.numbers-numbers.result.now (class_above top c.numbers-paths.result.now) top was (map seen made) is (map seen c.extend_from_slice.new.self.items) =
    record {
      own = own;
      added =
          ap (map seen) (c.in_ok-extend_from_slice.ensures.items ∙ ap (λ (l : List (Bor PathOf × ℕ)). made ++ l) c.deref.ensures.value)
          ∙ map-append seen made c.in_ok-next.own.items;
      walked =
          subst (λ (es : Numbers). AreWalked kinds es (class_above top c.numbers-paths.result.now) was is own) c.within-below.ensures
          (subst (λ (o : Option ℕ). AreWalked kinds c.within-below.result o was is own) c.class_over-over.ensures c.in_ok-next.ensures.walked);
    }
    in
    record {
      found =
          top_found rows before c.numbers-numbers.ensures.sound.order c.args.tops.now c.loop-top.top-index c.top-item.result c.loop-top-test.true c.top-item.is c.requires.tops c.requires.fits
          c.kinds-kinds.result.now c.kinds-kinds.ensures.all c.numbers-numbers.result.now c.numbers-numbers.ensures.all c.numbers-paths.result.now c.numbers-paths.ensures.all
          c.loop-top.builder.classes c.in_ok-next.next.classes (map seen c.loop-top.made.items) (map seen c.extend_from_slice.new.self.items) c.loop-top.invariant.found walks;
      known = subst (λ (k : KindsOf LabelRow). AreRight k c.in_ok-next.next.classes c.in_ok-next.next.known.items) c.kinds-kinds.ensures.all c.in_ok-next.ensures.known;
      begun = c.in_ok-next.ensures.begun before.0 c.loop-top.invariant.begun;
    }

pub returns-clause-found : goal.returns-clause-found
returns-clause-found c =
    let rows : Kept LabelRow = c.args.rows.now in
    let before : Kept PathClass = c.args.before.now in
    let tops : List (Bor PathOf) = c.args.tops.now in
    found_last rows (outside (paths_seen tops) before.1) before.0 c.loop-top.builder.classes c.into_parts-classes.result.0 tops c.loop-top.top-index (map seen c.loop-top.made.items)
    c.loop-top-test.false c.into_parts-classes.ensures.classes c.loop-top.invariant.found

pub returns-clause-begun : goal.returns-clause-begun
returns-clause-begun c =
    let before : Kept PathClass = c.args.before.now in
    subst (λ (ns : List ℕ). SameClassesBut ns before.0 c.into_parts-classes.result.0) (sym c.into_parts-classes.ensures.begun)
    (subst (SameClassesBut c.loop-top.builder.begun.items before.0) (sym c.into_parts-classes.ensures.classes) c.loop-top.invariant.begun)

pub walk-requires-clause-kept : goal.walk-requires-clause-kept
walk-requires-clause-kept c = λ n lt.
    let right = c.loop-top.invariant.found.widens.right n (c.requires.kept n lt) in
    subst (λ (k : KindsOf LabelRow). IsRightAt k c.loop-top.builder.classes n) (sym c.kinds-kinds.ensures.all) right
