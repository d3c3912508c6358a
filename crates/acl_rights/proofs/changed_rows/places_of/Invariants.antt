use Rattle.std.proofs.Common.{take, map}
use Rattle.path_map.specs.Entries.{seen}
use Rattle.acl_rights.specs.KindRows.{with_label, borrowed_labels, ArePlaced}
use Rattle.acl_rights.proofs.changed_rows.places_of.Given as goal

abbrev pub invariant-loop-path : goal.invariant-loop-path
invariant-loop-path l = ArePlaced (map with_label (take l.path-index l.paths)) (borrowed_labels l.labels.items) (map seen l.places.items)
