use Rattle.std.proofs.Common.{◌≡◌, take}
use Rattle.path_classes.specs.ClassesWithin.{paths_seen}
use Rattle.acl_rights.proofs.changed_part.copied.Given as goal

abbrev pub invariant-loop-path : goal.invariant-loop-path
invariant-loop-path l = l.copies.items ≡ paths_seen (take l.path-index l.paths)
