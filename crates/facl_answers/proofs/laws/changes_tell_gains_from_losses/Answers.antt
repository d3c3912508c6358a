use Rattle.facl_answers.proofs.GainsAndLosses.{all_gained, all_lost}
use Rattle.facl_answers.proofs.laws.changes_tell_gains_from_losses.Goals as goal

pub returns-clause-gains : goal.returns-clause-gains
returns-clause-gains c = all_gained

pub returns-clause-loses : goal.returns-clause-loses
returns-clause-loses c = all_lost
