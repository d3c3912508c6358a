use Rattle.std.proofs.Common.{◌≡◌, take, map}
use Rattle.path_map.specs.Entries.{seen}
use Rattle.kinds.specs.Placed.{by_place}
use Rattle.kinds.proofs.placed.entries_numbered.Given as goal

abbrev pub invariant-loop-entry : goal.invariant-loop-entry
invariant-loop-entry l = map seen l.numbered.items ≡ by_place l.numbers (map seen (take l.entry-index l.entries))
