use Rattle.std.proofs.Common.{map, take}
use Rattle.path_map.specs.Entries.{seen}
use Rattle.path_classes.specs.ClassBuilding.{AreRight, SameClassesBut}
use Rattle.path_classes.specs.ClassesWithin.{paths_seen, outside, AreFound}
use Rattle.path_classes.proofs.classes_within.classes_within.Given as goal

abbrev pub invariant-loop-top : goal.invariant-loop-top
invariant-loop-top l = record {
  found : AreFound l.rows (paths_seen (take l.top-index l.tops)) (outside (paths_seen l.tops) l.before.1) l.before.0 l.builder.classes (map seen l.made.items);
  known : AreRight l.rows.0 l.builder.classes l.builder.known.items;
  begun : SameClassesBut l.builder.begun.items l.before.0 l.builder.classes;
}
