use Rattle.std.proofs.Common.{take, map}
use Rattle.path_map.specs.Entries.{seen}
use Rattle.kinds.specs.Counted.{CountsBut}
use Rattle.kinds.proofs.counted.count_runs.Given as goal

abbrev pub invariant-loop-entry : goal.invariant-loop-entry
invariant-loop-entry g l = CountsBut l.fn.kinds (map seen (take l.entry-index l.entries)) l.numbering.kinds l.numbering.last l.numbering.pending
