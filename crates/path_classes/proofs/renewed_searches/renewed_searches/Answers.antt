use Rattle.std.proofs.Common.{◌<◌, length, arith}
use Rattle.path_classes.proofs.Inside.{step_inside}
use Rattle.path_classes.proofs.Renewals.{step_linked, step_awaits, step_within, step_smaller}
use Rattle.path_classes.proofs.renewed_searches.renewed_searches.Goals as goal

pub renew_one-requires-clause-linked : goal.renew_one-requires-clause-linked
renew_one-requires-clause-linked c =
    let lt : c.loop-at.at < length c.loop-at.queue.waiting.items = omega arith in
    step_linked c.args.rows.now c.args.before.now.0 c.loop-at.classes c.requires.linked c.loop-at.queue.waiting.items c.loop-at.queue.changed.items c.loop-at.at c.index-number.result.now lt
    c.index-number.ensures c.loop-at.invariant.awaits

pub loop-at-smaller : goal.loop-at-smaller
loop-at-smaller c =
    let lt : c.loop-at.at < length c.loop-at.queue.waiting.items = omega arith in
    step_smaller c.args.rows.now c.args.before.now.0 c.loop-at.classes c.requires.linked c.loop-at.queue.waiting.items c.loop-at.queue.changed.items c.loop-at.at c.index-number.result.now lt
    c.index-number.ensures c.loop-at.invariant.awaits c.renew_one.new.queue.waiting.items c.renew_one.new.queue.changed.items c.in_ok-classes-2.classes c.in_ok-classes-2.ensures

pub loop-at-preserved : goal.loop-at-preserved
loop-at-preserved c =
    let lt : c.loop-at.at < length c.loop-at.queue.waiting.items = omega arith in
    record {
      awaits =
          step_awaits c.args.rows.now c.args.before.now.0 c.loop-at.classes c.requires.linked c.loop-at.queue.waiting.items c.loop-at.queue.changed.items c.loop-at.at c.index-number.result.now lt
          c.index-number.ensures c.loop-at.invariant.awaits c.renew_one.new.queue.waiting.items c.renew_one.new.queue.changed.items c.in_ok-classes-2.classes c.in_ok-classes-2.ensures;
      within =
          step_within c.args.rows.now c.args.before.now.0 c.loop-at.classes c.requires.linked c.loop-at.queue.waiting.items c.loop-at.queue.changed.items c.loop-at.at c.index-number.result.now lt
          c.index-number.ensures c.loop-at.invariant.awaits c.renew_one.new.queue.waiting.items c.renew_one.new.queue.changed.items c.in_ok-classes-2.classes c.in_ok-classes-2.ensures;
      inside = λ tops h.
          step_inside c.args.rows.now c.args.before.now c.requires.each tops c.loop-at.classes c.in_ok-classes-2.classes c.loop-at.queue.waiting.items c.loop-at.queue.changed.items
          c.renew_one.new.queue.waiting.items c.renew_one.new.queue.changed.items c.loop-at.at c.index-number.result.now lt c.index-number.ensures c.in_ok-classes-2.ensures
          (c.loop-at.invariant.inside tops h);
    }

pub returns-clause-inside : goal.returns-clause-inside
returns-clause-inside c tops h = (c.loop-at.invariant.inside tops h).1
