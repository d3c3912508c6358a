use Rattle.std.proofs.Common.{sym, ap}
use Rattle.facl_counts.proofs.Tallying.{counted_anew, counted_more}
use Rattle.facl_counts.proofs.tallies.Tallies.add.Goals as goal

pub returns-then-has : goal.returns-then-has
returns-then-has c = λ others says.
    counted_more c.self.inside.list.items c.args.at _ c.index_mut-tally.result.now _ c.args.count (record { key = c.args.key; count = c.args.count; first = c.args.first.now }) c.args.self.now others
    (sym c.self.view_is) c.index_mut-tally.ensures.value (c.has.ensures c.if-has.true)
    (ap (λ n. record { key = c.index_mut-tally.result.now.key; count = n; first = c.index_mut-tally.result.now.first.now }) c.in_ok-tally.ensures) says

pub returns : goal.returns
returns c = λ others says.
    counted_anew c.self.inside.list.items c.push.new.self.items _ c.args.self.now others (sym c.self.view_is) c.in_ok-push.ensures.items says
