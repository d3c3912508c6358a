use Rattle.std.proofs.Common.{◌≡◌, ◌++◌, map, take}
use Rattle.path_classes.specs.ClassTags.{below_tag}
use Rattle.path_classes.proofs.rerowed_classes.push_below_tags.Given as goal

abbrev pub invariant-loop-class : goal.invariant-loop-class
invariant-loop-class l = l.tags.items ≡ l.fn.tags.items ++ map below_tag (take l.class-index l.above)
