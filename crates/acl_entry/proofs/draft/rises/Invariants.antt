use Rattle.std.proofs.Common.{take}
use Rattle.acl_entry.specs.Lists.{IsInOrder, HasIds}
use Rattle.acl_entry.proofs.draft.rises.Given as goal

abbrev pub invariant-loop-at : goal.invariant-loop-at
invariant-loop-at l = record {
  in_order : IsInOrder (take l.at l.entries);
  ids : HasIds (take l.at l.entries);
}
