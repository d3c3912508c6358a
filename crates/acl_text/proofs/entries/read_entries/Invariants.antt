use Rattle.std.proofs.Common.{◌≡◌, ◌≤◌, ◌+◌, length}
use Rattle.acl_names.specs.Pieces.{pieces}
use Rattle.acl_text.specs.InTurn.{read_each_from}
use Rattle.acl_text.specs.Entries.{separator, one_more, entries_of}
use Rattle.acl_text.proofs.entries.read_entries.Given as goal

abbrev pub invariant-loop-rest : goal.invariant-loop-rest
invariant-loop-rest g l = record {
  place : l.at + length l.rest ≤ length l.bytes;
  goes_on : read_each_from (one_more (g.N.Names.naming l.names) l.sep l.rules) (l.at + 1) l.specs.items (pieces (separator l.sep) l.rest)
      ≡ entries_of (g.N.Names.naming l.names) l.sep l.fn.want l.bytes;
}

abbrev pub decreases-loop-rest : goal.decreases-loop-rest
decreases-loop-rest g l = length l.rest
