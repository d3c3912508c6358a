use Rattle.std.proofs.Common.{◌≡◌, ℕ, List, map, sym, ap, subst, ◌∙◌, arith}
use Rattle.std.specs.Borrow.{Bor}
use Rattle.std.proofs.lemmas.Result.{IfOk-weaker}
use Rattle.acl_names.specs.Paths.{PathOf}
use Rattle.path_map.specs.Entries.{IsInOrder, seen}
use Rattle.path_map.specs.Below.{within}
use Rattle.kinds.specs.Kinds.{KindsOf, count_at}
use Rattle.kinds.specs.Numbered.{Kept, Numbers, AreUsed}
use Rattle.path_classes.specs.declared.label_row.LabelRow.{LabelRow}
use Rattle.path_classes.specs.PathClasses.{ClassKinds}
use Rattle.path_classes.specs.ClassBuilding.{AreRight}
use Rattle.kinds.specs.Renumbered.{SamePaths, IsRenumbered}
use Rattle.path_classes.proofs.Making.{within_root, walked_all, made_paths, made_used, made_fresh, made_classes}
use Rattle.path_classes.proofs.path_classes.classes_of.Goals as goal

pub walk-requires-clause-order : goal.walk-requires-clause-order
walk-requires-clause-order c =
    let rows : Kept LabelRow = c.args.rows.now in
    subst IsInOrder (sym (c.within-files.ensures ∙ (λ i. within (c.root-top.ensures i) (c.numbers-numbers.ensures.all i)) ∙ within_root rows.1)) c.numbers-numbers.ensures.sound.order

pub walk-requires-clause-used : goal.walk-requires-clause-used
walk-requires-clause-used c =
    let rows : Kept LabelRow = c.args.rows.now in
    subst (λ (k : KindsOf LabelRow). AreUsed k c.within-files.result) (sym c.kinds-kinds.ensures.all)
    (subst (AreUsed rows.0) (sym (c.within-files.ensures ∙ (λ i. within (c.root-top.ensures i) (c.numbers-numbers.ensures.all i)) ∙ within_root rows.1)) c.numbers-numbers.ensures.sound.used)

pub walk-requires-clause-known : goal.walk-requires-clause-known
walk-requires-clause-known c = subst (AreRight c.kinds-kinds.result.now c.new-none.result.classes) (sym c.new-none.ensures.known) tt

pub renumbered-requires-clause-paths : goal.renumbered-requires-clause-paths
renumbered-requires-clause-paths c =
    let rows : Kept LabelRow = c.args.rows.now in
    let all = c.within-files.ensures ∙ (λ i. within (c.root-top.ensures i) (c.numbers-numbers.ensures.all i)) ∙ within_root rows.1 in
    subst (λ (ns : Numbers). SamePaths ns (map seen c.deref.result.now)) (sym c.numbers-numbers.ensures.all)
    (subst (λ (fs : List (Bor PathOf × ℕ)). SamePaths rows.1 (map seen fs)) (sym c.deref.ensures.value)
    (made_paths rows c.in_ok-walked.walked.classes (map seen c.in_ok-walked.made.items)
    (walked_all rows c.kinds-kinds.result.now c.within-files.result c.new-none.result.classes c.in_ok-walked.walked.classes (map seen c.in_ok-walked.made.items)
    c.kinds-kinds.ensures.all all (c.new-none.ensures.classes ∙ c.new.ensures) c.in_ok-walked.ensures.walked)))

pub renumbered-requires-clause-used : goal.renumbered-requires-clause-used
renumbered-requires-clause-used c =
    let rows : Kept LabelRow = c.args.rows.now in
    let all = c.within-files.ensures ∙ (λ i. within (c.root-top.ensures i) (c.numbers-numbers.ensures.all i)) ∙ within_root rows.1 in
    subst (λ (k : ClassKinds). AreUsed k (map seen c.deref.result.now)) (sym c.into_parts-classes.ensures.classes)
    (subst (λ (fs : List (Bor PathOf × ℕ)). AreUsed c.in_ok-walked.walked.classes (map seen fs)) (sym c.deref.ensures.value)
    (made_used rows c.in_ok-walked.walked.classes (map seen c.in_ok-walked.made.items)
    (walked_all rows c.kinds-kinds.result.now c.within-files.result c.new-none.result.classes c.in_ok-walked.walked.classes (map seen c.in_ok-walked.made.items)
    c.kinds-kinds.ensures.all all (c.new-none.ensures.classes ∙ c.new.ensures) c.in_ok-walked.ensures.walked)))

pub renumbered-requires-clause-fresh : goal.renumbered-requires-clause-fresh
renumbered-requires-clause-fresh c = λ n.
    let rows : Kept LabelRow = c.args.rows.now in
    let all = c.within-files.ensures ∙ (λ i. within (c.root-top.ensures i) (c.numbers-numbers.ensures.all i)) ∙ within_root rows.1 in
    ap (λ (k : ClassKinds). count_at k n) c.into_parts-classes.ensures.classes
    ∙ made_fresh rows c.in_ok-walked.walked.classes (map seen c.in_ok-walked.made.items)
    (walked_all rows c.kinds-kinds.result.now c.within-files.result c.new-none.result.classes c.in_ok-walked.walked.classes (map seen c.in_ok-walked.made.items)
    c.kinds-kinds.ensures.all all (c.new-none.ensures.classes ∙ c.new.ensures) c.in_ok-walked.ensures.walked) n

pub returns : goal.returns
returns c =
    let rows : Kept LabelRow = c.args.rows.now in
    let made : Numbers = map seen c.in_ok-walked.made.items in
    let all = c.within-files.ensures ∙ (λ i. within (c.root-top.ensures i) (c.numbers-numbers.ensures.all i)) ∙ within_root rows.1 in
    IfOk-weaker c.renumbered.result _ _
    (λ new is.
    made_classes rows c.in_ok-walked.walked.classes made
    (walked_all rows c.kinds-kinds.result.now c.within-files.result c.new-none.result.classes c.in_ok-walked.walked.classes made
    c.kinds-kinds.ensures.all all (c.new-none.ensures.classes ∙ c.new.ensures) c.in_ok-walked.ensures.walked) new
    (subst (λ (fs : List (Bor PathOf × ℕ)). IsRenumbered c.in_ok-walked.walked.classes (map seen fs) new) c.deref.ensures.value
    (subst (λ (k : ClassKinds). IsRenumbered k (map seen c.deref.result.now) new) c.into_parts-classes.ensures.classes is)))
    c.renumbered.ensures

pub walk-requires-clause-kept : goal.walk-requires-clause-kept
walk-requires-clause-kept c = λ n lt.
    let none : count_at c.in_ok-kept.kept.outside n ≡ 0 = ap (λ (k : ClassKinds). count_at k n) c.in_ok-kept.ensures in
    absurd (omega (arith, lt, none))
