use Rattle.std.proofs.Common.{◌≡◌, ◌+◌, ◌≤◌, length}
use Rattle.acl_text.specs.SameBodies.{added}
use Rattle.acl_text.proofs.known.add_lines.Given as goal

abbrev pub invariant-loop-rest : goal.invariant-loop-rest
invariant-loop-rest g l = record {
  place : l.at + length l.rest ≤ length l.text;
  goes_on : added (g.N.Names.naming l.names) l.draft (l.at + 1) l.rest ≡ added (g.N.Names.naming l.names) l.fn.draft 1 l.text;
}

abbrev pub decreases-loop-rest : goal.decreases-loop-rest
decreases-loop-rest g l = length l.rest
