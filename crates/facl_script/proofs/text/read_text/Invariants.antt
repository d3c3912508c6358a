use Rattle.std.proofs.Common.{◌≡◌, ◌≤◌, ◌+◌, ◌-◌, ℕ, Bool, false, List, ◌++◌, length, Option}
use Rattle.std.specs.Io.KnownBytes.{Consumes}
use Rattle.facl_script.specs.declared.source.TheConstants.{SCRIPT_LIMIT}
use Rattle.facl_script.specs.Lines.{lines_of}
use Rattle.facl_script.specs.ByteSource.{unread, taken_count}
use Rattle.facl_script.specs.Units.{opened, within, cut}
use Rattle.facl_script.specs.ReadText.{HoldsText}
use Rattle.facl_script.proofs.TextLemmas.{so_far}
use Rattle.facl_script.proofs.text.read_text.Given as goal

abbrev pub invariant-loop-found : goal.invariant-loop-found
invariant-loop-found g l = record {
  works : g.R.Feed.has_failed l.reader ≡ false;
  piece : List ℕ;
  content : Option (List ℕ);
  consumes : Consumes (unread l.fn.source (g.R.Feed.remaining l.fn.reader)) (unread l.source (g.R.Feed.remaining l.reader)) piece;
  splits : (asks : List ℕ → Bool) (number : ℕ) (line : List ℕ) (n : ℕ) (rest : List ℕ)
      → cut asks (within (opened number line)) n (lines_of (piece ++ rest)) ≡ cut asks (within (so_far number line content)) (n + l.lines) (lines_of rest);
  holds : HoldsText l.held l.text.items content;
  count : taken_count l.source ≡ taken_count l.fn.source + length piece;
  lines : l.lines ≤ length piece;
}

abbrev pub decreases-loop-found : goal.decreases-loop-found
decreases-loop-found g l = SCRIPT_LIMIT - taken_count l.source
