use Rattle.std.proofs.Common.{◌≡◌, ◌+◌, ℕ, List, Option, IfSome, map, take, get_or, sym, ap, subst, ◌∙◌, arith}
use Rattle.std.specs.Borrow.{Bor}
use Rattle.std.specs.FinMap.{find}
use Rattle.std.proofs.lemmas.List.{take_all}
use Rattle.acl_names.specs.Paths.{path_cmp, PathOf}
use Rattle.path_map.specs.Entries.{seen}
use Rattle.kinds.specs.Numbered.{Kept}
use Rattle.path_classes.specs.declared.label_row.LabelRow.{LabelRow}
use Rattle.path_classes.specs.declared.path_class.PathClass.{PathClass}
use Rattle.path_classes.specs.declared.changed_answers.Comparison.{Comparison}
use Rattle.path_classes.specs.ChangedAnswers.{HadSameReach, IsTrueIn}
use Rattle.path_classes.specs.ClassedRows.{AreCountedOf}
use Rattle.path_classes.proofs.SameReach.{found_at, counted_more, same_at, few_unless}
use Rattle.path_classes.proofs.changed_answers.changed_answers.Goals as goal

pub loop-at-init : goal.loop-at-init
loop-at-init c = record {
  compared = record {
    last =
        subst (λ (o : Option Comparison). IfSome o (IsTrueIn c.kinds.result.now c.kinds-2.result.now c.kinds-3.result.now c.kinds-4.result.now))
        (sym c.new-compared.ensures.last) tt;
    all = λ key.
        subst (λ (o : Option Comparison). IfSome o (IsTrueIn c.kinds.result.now c.kinds-2.result.now c.kinds-3.result.now c.kinds-4.result.now))
        (sym (c.new-compared.ensures.all key)) tt;
  };
  least = λ differs stays. omega arith;
  most = omega arith;
}

pub loop-at-preserved : goal.loop-at-preserved
loop-at-preserved c =
    let old : Kept LabelRow = c.args.rows.now.before.now in
    let rows : Kept LabelRow = c.args.rows.now.after.now in
    let before : Kept PathClass = c.args.before.now in
    let after : Kept PathClass = c.args.after.now in
    let files : List (Bor PathOf × ℕ) = c.args.files.now in
    let e : Bor PathOf × ℕ = c.index-files-at.result in
    let was : c.index-was.result.now ≡ find path_cmp e.0.now before.1 =
    found_at files c.numbers.result.now c.loop-at.at e c.index-was.result.now c.loop-at-test.true c.index-files-at.is
    (c.index-was.ensures ∙ ap (λ (os : List (Option ℕ)). get_or os c.loop-at.at c.index-was.result.now) c.in_ok-found.ensures)
    ∙ ap (find path_cmp e.0.now) c.numbers.ensures.all in
    record {
      compared = c.in_ok-is_same.ensures.kept;
      least =
          subst (AreCountedOf old rows (map seen (take (c.loop-at.at + 1) files))) (sym c.count_unless-count.ensures)
          (counted_more old rows before after c.kinds.ensures.sound.used c.kinds-3.ensures.sound.used c.order_law.ensures c.order_law-2.ensures c.requires.were c.requires.are
          files c.requires.among c.loop-at.at e c.loop-at-test.true c.index-files-at.is c.index-was.result.now was c.in_ok-is_same.is_same
          (λ same.
          subst (λ (d : Bor PathOf × ℕ). HadSameReach old.0 before.0 rows.0 after.0 c.index-was.result.now d.1) (sym c.index-files-at.is)
          (same_at c.kinds.result.now old.0 c.kinds.ensures.all c.kinds-2.result.now before.0 c.kinds-2.ensures.all
          c.kinds-3.result.now rows.0 c.kinds-3.ensures.all c.kinds-4.result.now after.0 c.kinds-4.ensures.all c.index-was.result.now
          (get_or files c.loop-at.at e).1 (c.in_ok-is_same.ensures.same same)))
          c.loop-at.count c.loop-at.invariant.least);
      most = few_unless c.in_ok-is_same.is_same c.loop-at.count c.loop-at.at c.count_unless-count.result c.count_unless-count.ensures c.loop-at.invariant.most;
    }

pub returns-clause-least : goal.returns-clause-least
returns-clause-least c =
    subst (λ (es : List (Bor PathOf × ℕ)). AreCountedOf c.args.rows.now.before.now c.args.rows.now.after.now (map seen es) c.loop-at.count)
    (take_all c.loop-at.at c.args.files.now c.loop-at-test.false)
    c.loop-at.invariant.least
