use Rattle.std.proofs.Common.{ap, ◌∙◌, arith, map}
use Rattle.std.specs.Prelude.{◌-◌}
use Rattle.path_map.specs.Entries.{seen}
use Rattle.kinds.specs.Kinds.{count_at}
use Rattle.kinds.specs.Numbered.{paths_with}
use Rattle.std.proofs.lemmas.Result.{IfOk-weaker}
use Rattle.std.proofs.lemmas.List.{take_all}
use Rattle.path_classes.proofs.KeptCounts.{left_more}
use Rattle.path_classes.proofs.kept_classes.without_paths.Goals as goal

pub loop-entry-preserved : goal.loop-entry-preserved
loop-entry-preserved c = record {
  counts =
      left_more c.args.kinds c.loop-entry.kinds c.in_ok-released.released c.args.entries.now c.loop-entry.entry-index c.entry-item.result c.loop-entry-test.true c.entry-item.is
      c.loop-entry.last c.loop-entry.pending c.in_ok-released.count c.loop-entry.invariant.counts c.in_ok-released.ensures.counts;
  most = (let a = c.in_ok-released.ensures.most in let b = c.loop-entry.invariant.most in omega (arith, a, b));
}

pub returns : goal.returns
returns c =
    IfOk-weaker c.release_if.result _ _
    (λ new is n.
    is n ∙ c.loop-entry.invariant.counts n
    ∙ ap (λ es. count_at c.args.kinds n - paths_with n (map seen es)) (take_all c.loop-entry.entry-index c.args.entries.now c.loop-entry-test.false))
    c.release_if.ensures
