use Rattle.std.proofs.Common.{◌≡◌, map, take}
use Rattle.path_map.specs.Entries.{seen}
use Rattle.acl_rights.proofs.Outside.{alone}
use Rattle.acl_rights.proofs.changed_part.with_top.Given as goal

abbrev pub invariant-loop-path : goal.invariant-loop-path
invariant-loop-path l = map seen l.old.items ≡ map alone (take l.path-index l.tops)
