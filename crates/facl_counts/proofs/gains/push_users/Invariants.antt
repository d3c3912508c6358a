use Rattle.std.proofs.Common.{◌≡◌, ◌++◌, take}
use Rattle.std.specs.List.{flat_map}
use Rattle.facl_counts.specs.InnerGains.{lines_of_user}
use Rattle.facl_answers.specs.PathTexts.{text_in}
use Rattle.facl_counts.proofs.gains.push_users.Given as goal

abbrev pub invariant-loop-gains : goal.invariant-loop-gains
invariant-loop-gains l = l.text.items ≡ l.initial.text.items ++ flat_map (lines_of_user (text_in l.trees.0.now l.trees.1.now)) (take l.gains-index l.users)
