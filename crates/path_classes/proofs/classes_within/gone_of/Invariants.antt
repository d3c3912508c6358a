use Rattle.std.proofs.Common.{◌≡◌, not, map, filter, take}
use Rattle.path_map.specs.Entries.{seen}
use Rattle.path_map.specs.Merged.{has}
use Rattle.path_classes.proofs.classes_within.gone_of.Given as goal

abbrev pub invariant-loop-at : goal.invariant-loop-at
invariant-loop-at l = map seen l.gone.items ≡ filter (λ e. not (has e.0 l.others)) (map seen (take l.at l.files))
