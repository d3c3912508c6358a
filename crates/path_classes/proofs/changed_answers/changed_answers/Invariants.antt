use Rattle.std.proofs.Common.{◌≤◌, map, take}
use Rattle.path_map.specs.Entries.{seen}
use Rattle.path_classes.specs.ChangedAnswers.{AreTrue}
use Rattle.path_classes.specs.ClassedRows.{AreCountedOf}
use Rattle.path_classes.proofs.changed_answers.changed_answers.Given as goal

abbrev pub invariant-loop-at : goal.invariant-loop-at
invariant-loop-at l = record {
  compared : AreTrue l.state_before.labels.now l.state_before.classes.now l.state_after.labels.now l.state_after.classes.now l.compared;
  least : AreCountedOf l.rows.before.now l.rows.after.now (map seen (take l.at l.files)) l.count;
  most : l.count ≤ l.at;
}
