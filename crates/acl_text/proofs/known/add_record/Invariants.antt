use Rattle.std.proofs.Common.{◌≡◌, ℕ, ◌+◌, ◌≤◌, List, length}
use Rattle.acl_text.specs.declared.record.DumpUse.{DumpUse}
use Rattle.acl_text.specs.declared.record.DumpRecord.{DumpRecord}
use Rattle.acl_text.specs.SameBodies.{rest_if}
use Rattle.acl_text.proofs.known.add_record.Given as goal

abbrev pub invariant-each : goal.invariant-each
invariant-each g l = record {
  place : l.lines + length l.rest ≤ length l.text;
  goes_on : (dump_use : DumpUse) (records : List DumpRecord) (at : ℕ)
      → rest_if (g.N.Names.naming l.names) dump_use records l.fn.draft at l.text ≡ rest_if (g.N.Names.naming l.names) dump_use records l.draft (at + l.lines) l.rest;
}

abbrev pub decreases-each : goal.decreases-each
decreases-each g l = length l.rest
