use Rattle.std.proofs.Common.{◌≡◌, ◌++◌, take}
use Rattle.kinds.specs.Tagged.{numbers_found}
use Rattle.kinds.proofs.tagged.push_found.Given as goal

abbrev pub invariant-loop-one : goal.invariant-loop-one
invariant-loop-one l = l.new.items ≡ l.fn.new.items ++ numbers_found (take l.one-index l.found)
