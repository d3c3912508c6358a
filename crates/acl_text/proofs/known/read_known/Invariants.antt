use Rattle.std.proofs.Common.{◌≡◌, ◌+◌, ◌≤◌, [], length}
use Rattle.acl_text.specs.SameBodies.{rest_of}
use Rattle.acl_text.specs.KnownBodies.{AreKnown}
use Rattle.acl_text.proofs.known.read_known.Given as goal

abbrev pub invariant-loop-rest : goal.invariant-loop-rest
invariant-loop-rest g l = record {
  place : l.at + length l.rest ≤ length l.bytes + 1;
  known : AreKnown (g.N.Names.naming l.reading.names.now) l.reading.dump_use l.records.items l.bodies;
  goes_on : rest_of (g.N.Names.naming l.reading.names.now) l.reading.dump_use l.records.items l.at l.rest ≡ rest_of (g.N.Names.naming l.reading.names.now) l.reading.dump_use [] 1 l.bytes;
}

abbrev pub decreases-loop-rest : goal.decreases-loop-rest
decreases-loop-rest g l = length l.rest
