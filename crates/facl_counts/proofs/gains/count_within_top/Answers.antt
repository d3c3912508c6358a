use Rattle.std.proofs.Common.{map, subst, sym}
use Rattle.path_map.specs.Below.{within}
use Rattle.facl_counts.specs.Counting.{tallied}
use Rattle.facl_answers.specs.BothStates.{both_of, rows_in_both}
use Rattle.facl_counts.specs.InnerGains.{AreCounted}
use Rattle.facl_counts.proofs.PartGains.{on_ok, counted_changes}
use Rattle.facl_counts.proofs.gains.count_within_top.Goals as goal

pub returns : goal.returns
returns g c =
    let V = g.J.Judge.verdict_of in
    let asked = c.args.verdicts.now in
    let loaded = c.args.loaded.now in
    let now = asked.state.now in
    let both = both_of c.count_within.new.both in
    let files = within c.args.top.now (rows_in_both V asked.along loaded now) in
    let counted = subst (AreCounted both c.in_ok-tallies.tallies) c.of_states-both.ensures.files c.in_ok-tallies.ensures in
    let told = subst (λ ts. AreCounted both ts files) (sym c.as_slice.ensures) counted in
    on_ok c.count_changes.result (counted_changes V asked.along loaded now both (map tallied c.as_slice.result.now) files told c.args.users.now c.count_changes.new.users) c.count_changes.ensures
