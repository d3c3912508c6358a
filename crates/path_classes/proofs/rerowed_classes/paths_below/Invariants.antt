use Rattle.std.proofs.Common.{◌≡◌, take}
use Rattle.std.specs.Prelude.{count_by}
use Rattle.kinds.specs.Numbered.{entries_in}
use Rattle.path_classes.specs.FoundClasses.{is_below_some}
use Rattle.path_classes.proofs.rerowed_classes.paths_below.Given as goal

abbrev pub invariant-loop-class : goal.invariant-loop-class
invariant-loop-class l = l.count ≡ count_by (λ e. is_below_some (take l.class-index l.class-items) e.1) (entries_in l.classes)
