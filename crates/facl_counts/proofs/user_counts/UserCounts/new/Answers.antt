use Rattle.facl_counts.proofs.TwoParts.{no_files, none_kept}
use Rattle.facl_counts.proofs.user_counts.UserCounts.new.Goals as goal

pub invariant_of-result : goal.invariant_of-result
invariant_of-result c = none_kept c.args.users c.in_ok-wide.wide.items c.in_ok-narrow.narrow.items c.in_ok-wide.ensures c.in_ok-narrow.ensures

pub returns : goal.returns
returns c = no_files c.args.users c.in_ok-wide.wide.items c.in_ok-narrow.narrow.items c.in_ok-wide.ensures c.in_ok-narrow.ensures
