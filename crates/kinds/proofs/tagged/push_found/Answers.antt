use Rattle.std.proofs.Common.{None}
use Rattle.kinds.proofs.SameNodes.{found_more}
use Rattle.kinds.proofs.tagged.push_found.Goals as goal

pub loop-one-preserved : goal.loop-one-preserved
loop-one-preserved c =
    found_more c.args.found.now c.loop-one.one-index None c.args.new.now.items c.loop-one.new.items c.push_if.new.new.items c.loop-one-test.true c.loop-one.invariant c.in_ok-push_if.ensures
