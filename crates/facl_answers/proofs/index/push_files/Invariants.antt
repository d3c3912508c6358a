use Rattle.std.proofs.Common.{length, map}
use Rattle.facl_answers.specs.Inner.{files_left, row_text, walked}
use Rattle.facl_answers.proofs.WalkedTexts.{IsAdding}
use Rattle.facl_answers.proofs.index.push_files.Given as goal

abbrev pub invariant-loop-file : goal.invariant-loop-file
invariant-loop-file l = IsAdding (row_text (map (λ n. n.items) l.names)) (walked l.initial.rest) l.initial.text.items (walked l.rest) l.text.items

abbrev pub decreases-loop-file : goal.decreases-loop-file
decreases-loop-file l = length (files_left (walked l.rest))
