use Rattle.std.proofs.Common.{◌+◌, ◌≤◌, take}
use Rattle.kinds.specs.Kinds.{kinds_of}
use Rattle.kinds.specs.Tagged.{ChangesEach, AreNoted}
use Rattle.kinds.proofs.kinds.Kinds.changed_at.Given as goal

abbrev pub invariant-loop-number : goal.invariant-loop-number
invariant-loop-number g l = record {
  slots : ChangesEach (g.C.NodeChange.changed l.change) (take l.number-index l.numbers) l.self (kinds_of l.slots);
  noted : AreNoted (take l.number-index l.numbers) l.self (kinds_of l.slots) l.changed.items;
  at_most : g.C.NodeChange.counted l.state ≤ g.C.NodeChange.counted l.fn.state + l.number-index;
}
