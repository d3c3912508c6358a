use Rattle.std.proofs.Common.{◌≡◌, ◌++◌}
use Rattle.facl_counts.specs.GainsText.{side_of, lines_up_to}
use Rattle.facl_counts.specs.InnerGains.{lines_after}
use Rattle.facl_answers.specs.PathTexts.{text_in}
use Rattle.facl_counts.proofs.gains.push_user.Given as goal

abbrev pub invariant-loop-before : goal.invariant-loop-before
invariant-loop-before l = l.text.items ≡ l.initial.text.items
    ++ lines_up_to (λ before. lines_after (text_in l.trees.0.now l.trees.1.now) l.gains.user.name.items l.gains.tallies (side_of before)) l.before
