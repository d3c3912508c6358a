use Rattle.facl.proofs.LineParts.{answered_by_first}
use Rattle.facl.proofs.laws.lines_are_refused_for_their_first_fault.Goals as goal

pub returns : goal.returns
returns c = answered_by_first
