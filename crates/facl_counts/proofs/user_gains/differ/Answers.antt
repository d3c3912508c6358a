use Rattle.std.proofs.Common.{arith}
use Rattle.facl_counts.proofs.Gained.{gained_by_halves}
use Rattle.facl_counts.proofs.user_gains.differ.Goals as goal

pub returns : goal.returns
returns c = gained_by_halves c.args.before c.args.after (omega (arith, c.ranges.before)) (omega (arith, c.ranges.after))
