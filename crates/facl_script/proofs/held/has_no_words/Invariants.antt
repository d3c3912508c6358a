use Rattle.std.proofs.Common.{◌≡◌, drop}
use Rattle.facl_script.specs.Words.{has_no_words}
use Rattle.facl_script.proofs.held.has_no_words.Given as goal

abbrev pub invariant-loop-b : goal.invariant-loop-b
invariant-loop-b l = has_no_words (drop l.b-index l.line) ≡ has_no_words l.line
