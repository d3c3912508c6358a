use Rattle.std.proofs.Common.{◌≡◌, ◌≤◌, ◌+◌, None, length, is_some}
use Rattle.std.specs.List.{enumerate_from}
use Rattle.acl_names.specs.Pieces.{pieces}
use Rattle.acl_text.specs.Records.{lines_of}
use Rattle.acl_text.specs.Watched.{stream}
use Rattle.acl_text.specs.DumpSeen.{SeenPathsAre}
use Rattle.acl_text.proofs.dump.read_lines.Given as goal

abbrev pub invariant-loop-rest : goal.invariant-loop-rest
invariant-loop-rest g l = record {
  place : l.at + length l.rest ≤ length l.bytes;
  seen : SeenPathsAre l.seen l.records.items;
  watched : is_some l.seen ≡ is_some l.fn.seen;
  goes_on : stream (g.N.Names.naming l.reading.names.now) (is_some l.fn.seen) l.reading.dump_use l.records.items l.draft (enumerate_from (l.at + 1) (pieces 10 l.rest))
      ≡ stream (g.N.Names.naming l.reading.names.now) (is_some l.fn.seen) l.reading.dump_use l.fn.records.items None (lines_of l.bytes);
}

abbrev pub decreases-loop-rest : goal.decreases-loop-rest
decreases-loop-rest g l = length l.rest
