use Rattle.std.proofs.Common.{take, map}
use Rattle.path_map.specs.Entries.{seen}
use Rattle.kinds.specs.Counted.{CountsPaths}
use Rattle.kinds.proofs.counted.counts_of.Given as goal

abbrev pub invariant-loop-entry : goal.invariant-loop-entry
invariant-loop-entry l = CountsPaths l.numbers (map seen (take l.entry-index l.entries)) l.counts.items
