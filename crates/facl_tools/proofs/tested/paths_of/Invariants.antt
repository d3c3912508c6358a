use Rattle.std.proofs.Common.{◌≡◌, take}
use Rattle.acl_tree.specs.Restoring.{paths_of}
use Rattle.facl_tools.proofs.tested.paths_of.Given as goal

abbrev pub invariant-loop-record : goal.invariant-loop-record
invariant-loop-record l = l.paths.items ≡ paths_of (take l.record-index l.records)
