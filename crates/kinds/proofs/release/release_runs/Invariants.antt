use Rattle.std.proofs.Common.{take}
use Rattle.kinds.specs.Inner.{ReleasesBut}
use Rattle.kinds.proofs.release.release_runs.Given as goal

abbrev pub invariant-loop-one : goal.invariant-loop-one
invariant-loop-one g l = ReleasesBut l.fn.kinds (take l.one-index l.found) l.kinds l.last l.pending
