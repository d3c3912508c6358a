use Rattle.std.proofs.Common.{ap, ◌∙◌}
use Rattle.std.proofs.lemmas.List.{take_all}
use Rattle.path_map.specs.Entries.{seen}
use Rattle.path_classes.specs.ClassesWithin.{paths_seen, inside}
use Rattle.path_classes.proofs.PutWithin.{inside_first, inside_next}
use Rattle.path_classes.proofs.classes_within.files_within.Goals as goal
use Rattle.std.proofs.Common.{map}

pub loop-top-init : goal.loop-top-init
loop-top-init c = inside_first c.args.tops.now c.args.files.now (map seen c.new-all.result.items) (ap (map seen) c.new-all.ensures.items)

pub loop-top-preserved : goal.loop-top-preserved
loop-top-preserved c =
    inside_next c.args.tops.now c.loop-top.top-index c.top-item.result c.loop-top-test.true c.top-item.is c.requires c.args.files.now c.order_law.ensures
    (map seen c.loop-top.all.items) (map seen c.push_all.new.all.items) c.within-below.result c.loop-top.invariant c.within-below.ensures c.in_ok-push_all.ensures

pub returns : goal.returns
returns c = c.loop-top.invariant ∙ ap (λ ps. inside (paths_seen ps) c.args.files.now) (take_all c.loop-top.top-index c.args.tops.now c.loop-top-test.false)
