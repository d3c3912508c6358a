use Rattle.std.proofs.Common.{◌∙◌}
use Rattle.path_classes.proofs.TopsOf.{in_last}
use Rattle.path_classes.proofs.top_paths.is_in_last.Goals as goal

pub returns-in-Some : goal.returns-in-Some
returns-in-Some c = c.is_within.ensures ∙ in_last c.args.tops.now c.in-Some._before.now c.in-Some.last.now c.args.path.now c.in-Some.ensures.cases.0
