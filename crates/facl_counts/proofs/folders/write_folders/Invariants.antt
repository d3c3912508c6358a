use Rattle.std.proofs.Common.{◌≡◌, None, take}
use Rattle.acl_tree.specs.Operands.{first_missing}
use Rattle.facl_counts.specs.BelowText.{folders_text}
use Rattle.facl_counts.proofs.folders.write_folders.Given as goal

abbrev pub invariant-loop-path : goal.invariant-loop-path
invariant-loop-path g l = record {
  text :
      l.text.items ≡ folders_text g.J.Judge.verdict_of l.verdicts.along l.verdicts.state.now l.which.asked.request l.which.asked.kind l.which.user l.which.depth
      (take l.path-index l.paths);
  there : first_missing (take l.path-index l.paths) l.verdicts.state.now.tree.files ≡ None;
}
