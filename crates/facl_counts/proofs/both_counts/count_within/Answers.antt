use Rattle.std.proofs.Common.{subst}
use Rattle.std.specs.Prelude.{option_map}
use Rattle.path_map.specs.Entries.{seen}
use Rattle.facl_answers.specs.BothStates.{TakesNextWithin, both_of}
use Rattle.facl_counts.proofs.BothCounts.{counting_ends, counting_more}
use Rattle.facl_counts.proofs.both_counts.count_within.Goals as goal

pub loop-hints-preserved-then-at-hint : goal.loop-hints-preserved-then-at-hint
loop-hints-preserved-then-at-hint c =
    let old = both_of c.loop-hints.both in
    let new = both_of c.next_within.new.self in
    let taken = subst (λ o. TakesNextWithin c.args.top.now old (option_map seen o) new) c.in-Some.is c.in_ok-path.ensures in
    counting_more c.args.top.now (both_of c.args.both.now) old new c.loop-hints.tallies c.add.new.self c.in-Some.path.now c.in-Some.key c.loop-hints.invariant taken.0 taken.1 c.in_ok-at.ensures

pub loop-hints-preserved : goal.loop-hints-preserved
loop-hints-preserved c =
    let old = both_of c.loop-hints.both in
    let new = both_of c.next_within.new.self in
    let taken = subst (λ o. TakesNextWithin c.args.top.now old (option_map seen o) new) c.in-Some.is c.in_ok-path.ensures in
    counting_more c.args.top.now (both_of c.args.both.now) old new c.loop-hints.tallies c.add.new.self c.in-Some.path.now c.in-Some.key c.loop-hints.invariant taken.0 taken.1 c.in_ok-at.ensures

pub returns : goal.returns
returns c =
    let old = both_of c.loop-hints.both in
    let new = both_of c.next_within.new.self in
    let over = subst (λ o. TakesNextWithin c.args.top.now old (option_map seen o) new) c.in_default.is c.in_ok-path.ensures in
    counting_ends c.args.top.now (both_of c.args.both.now) old new c.loop-hints.tallies over c.loop-hints.invariant
