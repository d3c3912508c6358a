use Rattle.std.proofs.Common.{length, map}
use Rattle.path_map.specs.Entries.{seen}
use Rattle.path_classes.specs.ClassBuilding.{AreRight, AreMade, SameClassesBut}
use Rattle.path_classes.specs.PathClasses.{ClassKinds}
use Rattle.path_classes.proofs.class_walk.walk.Given as goal

abbrev pub invariant-loop-path : goal.invariant-loop-path
invariant-loop-path l = record {
  made : AreMade l.sources.rows.now l.fn.files l.over l.fn.builder.classes l.builder.classes (map seen l.made.items) l.rest (map seen l.stack.items);
  known : AreRight l.sources.rows.now l.builder.classes l.builder.known.items;
  begun : (first : ClassKinds) → SameClassesBut l.fn.builder.begun.items first l.fn.builder.classes → SameClassesBut l.builder.begun.items first l.builder.classes;
}

abbrev pub decreases-loop-path : goal.decreases-loop-path
decreases-loop-path l = length l.rest
