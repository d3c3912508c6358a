use Rattle.facl_answers.proofs.PartRows.{same_outside_root}
use Rattle.facl_answers.proofs.changes.write_changes.Goals as goal

pub write_changes_within-requires : goal.write_changes_within-requires
write_changes_within-requires g c = record {
  tops = (tt, tt);
  same = same_outside_root g.J.Judge.verdict_of c.root.result c.args.loaded.now c.args.verdicts.now.state.now c.root.ensures;
}
