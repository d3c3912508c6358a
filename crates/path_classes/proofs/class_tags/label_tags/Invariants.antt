use Rattle.std.proofs.Common.{◌≡◌, map, take}
use Rattle.path_classes.specs.ClassTags.{label_tag}
use Rattle.path_classes.proofs.class_tags.label_tags.Given as goal

abbrev pub invariant-loop-label : goal.invariant-loop-label
invariant-loop-label l = l.tags.items ≡ map label_tag (take l.label-index l.labels)
