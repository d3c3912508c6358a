use Rattle.facl_counts.proofs.SilentGains.{kept_file, nothing_changed, nothing_gained}
use Rattle.facl_counts.proofs.laws.gains_print_all_that_changes.Goals as goal

pub returns-clause-silent : goal.returns-clause-silent
returns-clause-silent c = nothing_gained

pub returns-clause-complete : goal.returns-clause-complete
returns-clause-complete c = nothing_changed

pub returns-clause-kept : goal.returns-clause-kept
returns-clause-kept c = kept_file
