use Rattle.std.proofs.Common.{◌≡◌, ◌++◌}
use Rattle.facl_counts.specs.GainsText.{side_of, lines_up_to}
use Rattle.facl_counts.specs.InnerGains.{tally_line}
use Rattle.facl_answers.specs.PathTexts.{text_in}
use Rattle.facl_counts.proofs.gains.push_after.Given as goal

abbrev pub invariant-loop-after : goal.invariant-loop-after
invariant-loop-after l =
    l.text.items ≡ l.initial.text.items ++ lines_up_to (λ after. tally_line (text_in l.trees.0.now l.trees.1.now) l.gains.user.name.items l.gains.tallies (l.before, side_of after)) l.after
