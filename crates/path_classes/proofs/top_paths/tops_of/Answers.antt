use Rattle.std.proofs.Common.{drop, map}
use Rattle.path_map.specs.Entries.{seen}
use Rattle.path_classes.specs.ClassesWithin.{paths_seen}
use Rattle.path_classes.proofs.TopsOf.{taken_before, taken_more}
use Rattle.path_classes.proofs.top_paths.tops_of.Goals as goal

pub push_top-requires-clause-after : goal.push_top-requires-clause-after
push_top-requires-clause-after g c =
    taken_before (map seen c.args.changed.now) (map seen (drop c.loop-path.change c.args.changed.now)) (map seen c.args.gone.now) (map seen (drop c.loop-path.other c.args.gone.now))
    (paths_seen c.loop-path.tops.items) c.loop-path.invariant c.in-Some.path.now (map seen (drop c.in-Some.after c.args.changed.now)) (map seen (drop c.in-Some.after_other c.args.gone.now))
    c.in-Some.ensures

pub loop-path-preserved : goal.loop-path-preserved
loop-path-preserved g c =
    taken_more (map seen c.args.changed.now) (map seen (drop c.loop-path.change c.args.changed.now)) (map seen c.args.gone.now) (map seen (drop c.loop-path.other c.args.gone.now))
    (paths_seen c.loop-path.tops.items) c.loop-path.invariant c.in-Some.path.now (map seen (drop c.in-Some.after c.args.changed.now)) (map seen (drop c.in-Some.after_other c.args.gone.now))
    c.in-Some.ensures (paths_seen c.push_top.new.tops.items) c.in_ok-push_top.ensures
