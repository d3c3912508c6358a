use Rattle.std.proofs.Common.{◌≡◌, ◌+◌, drop}
use Rattle.std.specs.List.{position_from}
use Rattle.acl_entry.specs.Keys.{is_named}
use Rattle.acl_entry.specs.Lists.{keys}
use Rattle.acl_entry.proofs.draft.first_named.Given as goal

abbrev pub invariant-loop-i : goal.invariant-loop-i
invariant-loop-i l = position_from is_named (l.i + 1) (keys (drop l.i l.entries)) ≡ position_from is_named 1 (keys l.entries)
