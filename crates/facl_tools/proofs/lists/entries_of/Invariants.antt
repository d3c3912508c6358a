use Rattle.std.proofs.Common.{◌≡◌, map, take}
use Rattle.facl_tools.specs.Lists.{entry_of}
use Rattle.facl_tools.proofs.lists.entries_of.Given as goal

abbrev pub invariant-loop-spec : goal.invariant-loop-spec
invariant-loop-spec l = l.entries.items ≡ map entry_of (take l.spec-index l.specs)
