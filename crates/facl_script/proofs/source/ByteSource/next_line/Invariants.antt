use Rattle.std.proofs.Common.{◌≡◌, ◌<◌, ◌+◌, ◌-◌, ℕ, false, List, [], length}
use Rattle.std.specs.Prelude.{MatchBool}
use Rattle.std.specs.Io.KnownBytes.{Consumes}
use Rattle.facl_script.specs.Lines.{HasNoLineFeed, Held}
use Rattle.facl_script.specs.declared.source.TheConstants.{SCRIPT_LIMIT}
use Rattle.facl_script.specs.ByteSource.{unread, taken_count}
use Rattle.facl_script.proofs.source.ByteSource.next_line.Given as goal

abbrev pub invariant-loop-self : goal.invariant-loop-self
invariant-loop-self g l = record {
  works : g.R.Feed.has_failed l.reader ≡ false;
  text : List ℕ;
  no_line_feed : HasNoLineFeed text;
  consumes : Consumes (unread l.fn.self (g.R.Feed.remaining l.fn.reader)) (unread l.self (g.R.Feed.remaining l.reader)) text;
  held : Held l.is_too_long l.line.items text;
  count : taken_count l.self ≡ taken_count l.fn.self + length text;
  empty : MatchBool l.is_empty (text ≡ []) (0 < length text);
}

abbrev pub decreases-loop-self : goal.decreases-loop-self
decreases-loop-self g l = SCRIPT_LIMIT - taken_count l.self
