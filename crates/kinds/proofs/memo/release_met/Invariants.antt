use Rattle.std.proofs.Common.{take}
use Rattle.kinds.specs.Memo.{ReleasesMet}
use Rattle.kinds.proofs.memo.release_met.Given as goal

abbrev pub invariant-loop-one : goal.invariant-loop-one
invariant-loop-one g l = ReleasesMet l.fn.kinds (take l.one-index l.met) l.kinds
