use Rattle.std.proofs.Common.{◌≡◌, ℕ, Bool, List, false, true, get_or, sym, ap, subst, ◌∙◌, arith}
use Rattle.std.specs.Prelude.{not}
use Rattle.kinds.specs.Kinds.{KindsOf}
use Rattle.path_classes.specs.declared.label_row.LabelRow.{LabelRow}
use Rattle.path_classes.specs.ClassedRows.{verdicts_at}
use Rattle.path_classes.proofs.MarkedClasses.{not_false, marks_more}
use Rattle.path_classes.proofs.marked_classes.changed_verdicts.Goals as goal

pub loop-label-preserved : goal.loop-label-preserved
loop-label-preserved c =
    let old : KindsOf LabelRow = c.args.old.now.0 in
    let new : KindsOf LabelRow = c.args.rows.now.0 in
    let n : ℕ = c.loop-label.label in
    let marks : List Bool = c.loop-label.marks.items in
    let is : Bool = c.has_same_verdicts.result in
    let last : not is ≡ false → verdicts_at new n ≡ verdicts_at old n =
    λ h. ap (λ (k : KindsOf LabelRow). verdicts_at k n) (sym c.kinds-after.ensures.all) ∙ c.has_same_verdicts.ensures (not_false is h)
    ∙ ap (λ (k : KindsOf LabelRow). verdicts_at k n) c.kinds-before.ensures.all in
    record {
      long = omega (arith, c.loop-label.invariant.long, c.in_ok-push.ensures.len);
      same = subst (λ (l : List Bool). (m : ℕ) → get_or l m true ≡ false → verdicts_at new m ≡ verdicts_at old m) (sym c.in_ok-push.ensures.items)
          (marks_more (λ m. verdicts_at new m ≡ verdicts_at old m) marks (not is) c.loop-label.invariant.same
          (λ h. subst (λ m. verdicts_at new m ≡ verdicts_at old m) (sym c.loop-label.invariant.long) (last h)));
    }
