use Rattle.std.proofs.Common.{take}
use Rattle.kinds.specs.Memo.{GrantsMet}
use Rattle.kinds.proofs.memo.grant_met.Given as goal

abbrev pub invariant-loop-one : goal.invariant-loop-one
invariant-loop-one g l = GrantsMet l.fn.kinds (take l.one-index l.met) l.kinds
