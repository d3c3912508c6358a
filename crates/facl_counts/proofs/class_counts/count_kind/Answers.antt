use Rattle.std.proofs.Common.{None, Some, ap, subst}
use Rattle.std.specs.Prelude.{option_map}
use Rattle.path_map.specs.Entries.{seen}
use Rattle.path_classes.specs.Classes.{Classed}
use Rattle.path_classes.specs.Rows.{Rows}
use Rattle.facl_answers.specs.BothStates.{front}
use Rattle.facl_counts.specs.Sums.{rows_with, TakesWithin}
use Rattle.facl_counts.proofs.ClassFiles.{counting_begins, counting_ends, kind_counted, none_with}
use Rattle.facl_counts.proofs.class_counts.count_kind.Goals as goal

pub loop-tallies-init : goal.loop-tallies-init
loop-tallies-init c =
    counting_begins (rows_with c.args.kind c.args.files.now (front c.args.top.now c.args.classes.now.1)) c.args.classes.now.0 c.new-tallies.result c.new-tallies.ensures

pub loop-tallies-preserved : goal.loop-tallies-preserved
loop-tallies-preserved c =
    let taken : TakesWithin c.args.top.now c.loop-tallies.classes (Some (c.in-Some.first.now, c.in-Some.class)) c.next_within.new.classes =
    subst (λ o. TakesWithin c.args.top.now c.loop-tallies.classes (option_map seen o) c.next_within.new.classes) c.in-Some.is c.in_ok-first.ensures in
    kind_counted c.args.kind c.args.top.now (rows_with c.args.kind c.args.files.now (front c.args.top.now c.args.classes.now.1)) c.loop-tallies.files c.takes_kind-is_of_it.new.files
    c.loop-tallies.classes c.next_within.new.classes c.loop-tallies.tallies c.count_if.new.tallies c.in-Some.first.now c.in-Some.class c.takes_kind-is_of_it.result
    taken c.takes_kind-is_of_it.ensures c.loop-tallies.invariant c.in_ok-count_if.ensures

pub returns : goal.returns
returns c =
    let over : TakesWithin c.args.top.now c.loop-tallies.classes None c.next_within.new.classes =
    subst (λ o. TakesWithin c.args.top.now c.loop-tallies.classes (option_map seen o) c.next_within.new.classes) c.in_default.is c.in_ok-first.ensures in
    let left : Rows = rows_with c.args.kind c.loop-tallies.files (front c.args.top.now c.loop-tallies.classes.1) in
    counting_ends (rows_with c.args.kind c.args.files.now (front c.args.top.now c.args.classes.now.1)) left c.loop-tallies.classes.0 c.next_within.new.classes.0
    c.loop-tallies.tallies (none_with c.args.kind c.loop-tallies.files (front c.args.top.now c.loop-tallies.classes.1) over.0)
    (ap (λ (k : Classed). k.0) over.1) c.loop-tallies.invariant
