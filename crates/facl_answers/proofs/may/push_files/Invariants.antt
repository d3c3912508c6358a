use Rattle.std.proofs.Common.{length}
use Rattle.facl_answers.specs.Inner.{AreGranted, files_left, granted_text, walked}
use Rattle.facl_answers.proofs.WalkedTexts.{IsAdding}
use Rattle.facl_answers.proofs.may.push_files.Given as goal

abbrev pub invariant-loop-table : goal.invariant-loop-table
invariant-loop-table l = record {
  adding : IsAdding (granted_text l.request l.user) (walked l.initial.rest) l.initial.text.items (walked l.rest) l.text.items;
  known : AreGranted l.request l.user l.rest.classes.0 l.table.items;
}

abbrev pub decreases-loop-table : goal.decreases-loop-table
decreases-loop-table l = length (files_left (walked l.rest))
