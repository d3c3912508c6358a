use Rattle.facl_script.proofs.PieceCuts.{full_units_first}
use Rattle.facl_script.proofs.laws.full_units_come_first.Goals as goal

pub returns : goal.returns
returns c = λ asks front rest. full_units_first asks front rest
