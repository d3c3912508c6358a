use Rattle.std.proofs.Common.{None, Some, ap, subst}
use Rattle.std.specs.Prelude.{option_map}
use Rattle.path_map.specs.Entries.{seen}
use Rattle.path_classes.specs.Classes.{Classed}
use Rattle.facl_answers.specs.BothStates.{front}
use Rattle.facl_counts.specs.Sums.{TakesWithin}
use Rattle.facl_counts.proofs.ClassFiles.{counting_begins, counting_ends, file_counted}
use Rattle.facl_counts.proofs.class_counts.count_files.Goals as goal

pub loop-tallies-init : goal.loop-tallies-init
loop-tallies-init c = counting_begins (front c.args.top.now c.args.classes.now.1) c.args.classes.now.0 c.new-tallies.result c.new-tallies.ensures

pub loop-tallies-preserved : goal.loop-tallies-preserved
loop-tallies-preserved c =
    let taken : TakesWithin c.args.top.now c.loop-tallies.classes (Some (c.in-Some.first.now, c.in-Some.class)) c.next_within.new.classes =
    subst (λ o. TakesWithin c.args.top.now c.loop-tallies.classes (option_map seen o) c.next_within.new.classes) c.in-Some.is c.in_ok-first.ensures in
    file_counted c.args.top.now (front c.args.top.now c.args.classes.now.1) c.loop-tallies.classes c.next_within.new.classes c.loop-tallies.tallies
    c.count.new.tallies c.in-Some.first.now c.in-Some.class taken c.loop-tallies.invariant c.in_ok-count.ensures

pub returns : goal.returns
returns c =
    let over : TakesWithin c.args.top.now c.loop-tallies.classes None c.next_within.new.classes =
    subst (λ o. TakesWithin c.args.top.now c.loop-tallies.classes (option_map seen o) c.next_within.new.classes) c.in_default.is c.in_ok-first.ensures in
    counting_ends (front c.args.top.now c.args.classes.now.1) (front c.args.top.now c.loop-tallies.classes.1) c.loop-tallies.classes.0 c.next_within.new.classes.0
    c.loop-tallies.tallies over.0 (ap (λ (k : Classed). k.0) over.1) c.loop-tallies.invariant
