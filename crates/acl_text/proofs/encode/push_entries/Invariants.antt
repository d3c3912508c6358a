use Rattle.std.proofs.Common.{◌≡◌, ◌++◌, take}
use Rattle.std.specs.List.{flat_map}
use Rattle.acl_text.specs.Attr.{entry_bytes}
use Rattle.acl_text.proofs.encode.push_entries.Given as goal

abbrev pub invariant-loop-entry : goal.invariant-loop-entry
invariant-loop-entry l = l.bytes.items ≡ l.initial.bytes.items ++ flat_map entry_bytes (take l.entry-index l.entries)
