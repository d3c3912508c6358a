use Rattle.std.proofs.Common.{◌≡◌, ◌≤◌, ◌+◌, length}
use Rattle.acl_text.specs.InTurn.{read_each_from, read_each}
use Rattle.acl_text.specs.Attr.{start, one_entry, entries_in}
use Rattle.acl_text.proofs.decode.read_entries.Given as goal

abbrev pub invariant-loop-rest : goal.invariant-loop-rest
invariant-loop-rest l = record {
  place : l.at + length l.rest ≤ length l.bytes;
  goes_on : read_each_from one_entry (l.at + 1) l.reading (entries_in l.rest) ≡ read_each one_entry start (entries_in l.bytes);
}

abbrev pub decreases-loop-rest : goal.decreases-loop-rest
decreases-loop-rest l = length l.rest
