use Rattle.std.proofs.Common.{ℕ, List, [], ◌∷◌, Option, sym, subst, ◌∙◌}
use Rattle.acl_names.specs.Paths.{PathOf}
use Rattle.kinds.specs.Numbered.{Numbers}
use Rattle.kinds.specs.Given.{shared_nodes}
use Rattle.path_classes.specs.declared.label_row.LabelRow.{LabelRow}
use Rattle.acl_rights.specs.KeptLabels.{HaveRows}
use Rattle.acl_rights.proofs.KeptLabels.{rows_more}
use Rattle.acl_rights.proofs.kept_labels.kept_numbers.Goals as goal

pub loop-path-preserved : goal.loop-path-preserved
loop-path-preserved c =
    let rows : List (Option LabelRow) = shared_nodes c.args.rows.now in
    let e : PathOf × ℕ = (c.in-Some.path.0.now, c.in-Some.path.1) in
    let f : PathOf × ℕ = (c.in-Some-next.file.0.now, c.in-Some-next.file.1) in
    let es : Numbers = c.next.new.self in
    let fs : Numbers = c.next-in-Some.new.self in
    record {
      long = c.gets_row.ensures.long ∙ c.loop-path.invariant.long;
      all = rows_more rows c.loop-path.numbers.items c.gets_row.new.numbers.items e f es fs c.args.labels.now.1 c.args.files.now.1
          c.gets_row.ensures.kept (c.gets_row.ensures.row c.if-not-gets_row.false)
          (λ ms keeps h. c.loop-path.invariant.all ms keeps
          (subst (λ (l : Numbers). HaveRows rows ms l c.loop-path.rest) (sym c.in-Some.ensures.steps)
          (subst (λ (l : Numbers). HaveRows rows ms (e ∷ es) l) (sym c.in-Some-next.ensures.steps) h)));
    }

pub returns-in-None-clause-rows : goal.returns-in-None-clause-rows
returns-in-None-clause-rows c =
    let rows : List (Option LabelRow) = shared_nodes c.args.rows.now in
    let ms : List (Option ℕ) = c.loop-path.numbers.items in
    let none : HaveRows rows ms [] [] = tt in
    c.loop-path.invariant.all ms (λ label number is. is)
    (subst (λ (l : Numbers). HaveRows rows ms l c.loop-path.rest) (sym c.in_default.ensures.steps.0)
    (subst (λ (l : Numbers). HaveRows rows ms [] l) (sym c.in-None.ensures.steps.0) none))
