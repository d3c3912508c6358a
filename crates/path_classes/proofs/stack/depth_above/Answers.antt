use Rattle.std.proofs.Common.{arith, ◌∙◌, sym, ap}
use Rattle.path_map.specs.Entries.{seen}
use Rattle.acl_names.specs.Below.{encloses}
use Rattle.acl_names.proofs.Below.{within_below}
use Rattle.path_classes.proofs.Walks.{before_row, shrink_step, top_step, none_left, not_within}
use Rattle.path_classes.proofs.stack.depth_above.Goals as goal

pub returns-then-is_within-clause-left : goal.returns-then-is_within-clause-left
returns-then-is_within-clause-left g c =
    let top = c.index-stack-depth.result in
    record {
      kept = c.loop-depth.invariant.kept;
      top =
          top_step seen c.args.stack.now top c.loop-depth.depth c.args.path.now c.index-stack-depth.is c.loop-depth-test.true c.loop-depth.invariant.most
          (within_below (seen top).0 c.args.path.now (ap (λ e. encloses (seen e).0 c.args.path.now) c.index-stack-depth.is ∙ sym c.is_within.ensures ∙ c.if-is_within.true)
          (before_row seen c.args.stack.now top c.loop-depth.depth c.args.path.now c.index-stack-depth.is c.loop-depth-test.true c.loop-depth.invariant.most
          c.requires.before)) c.loop-depth.invariant.kept;
    }

pub loop-depth-preserved : goal.loop-depth-preserved
loop-depth-preserved g c =
    let top = c.index-stack-depth.result in
    record {
      most = omega (arith, c.loop-depth.invariant.most);
      kept = shrink_step seen c.args.stack.now top c.loop-depth.depth c.args.path.now c.index-stack-depth.is c.loop-depth-test.true c.loop-depth.invariant.most c.requires.before
          (not_within (seen top).0 c.args.path.now (ap (λ e. encloses (seen e).0 c.args.path.now) c.index-stack-depth.is ∙ sym c.is_within.ensures ∙ c.if-is_within.false)) c.loop-depth.invariant.kept;
    }

pub returns-clause-left : goal.returns-clause-left
returns-clause-left g c = record {
  kept = c.loop-depth.invariant.kept;
  top = none_left seen c.args.stack.now c.loop-depth.depth c.args.path.now (omega (arith, c.loop-depth-test.false)) c.loop-depth.invariant.kept;
}
