use Rattle.std.proofs.Common.{◌∙◌}
use Rattle.path_map.proofs.Finds.{front_in, front_order, front_finds}
use Rattle.path_map.proofs.finder.run_from.Goals as goal

pub returns-clause-order : goal.returns-clause-order
returns-clause-order g c = front_order c.into_run.result c.into_run.ensures.after c.args.map.now c.args.path.now c.order_law.ensures (c.into_run.ensures.joined ∙ c.from.ensures)

pub returns-clause-part : goal.returns-clause-part
returns-clause-part g c = front_in c.into_run.result c.into_run.ensures.after c.args.map.now c.args.path.now (c.into_run.ensures.joined ∙ c.from.ensures)

pub returns-clause-first : goal.returns-clause-first
returns-clause-first g c some = front_finds c.into_run.result c.into_run.ensures.after c.args.map.now c.args.path.now c.order_law.ensures (c.into_run.ensures.joined ∙ c.from.ensures) some
