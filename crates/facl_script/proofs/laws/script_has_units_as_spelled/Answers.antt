use Rattle.std.proofs.Common.{List, sym, subst}
use Rattle.facl_script.specs.Units.{ScriptUnit}
use Rattle.facl_script.specs.Pieces.{AreUnits}
use Rattle.facl_script.proofs.PieceLemmas.{are_units}
use Rattle.facl_script.proofs.PieceCuts.{no_others}
use Rattle.facl_script.proofs.laws.script_has_units_as_spelled.Goals as goal

pub returns : goal.returns
returns c = λ asks script units. ((λ e. subst (λ (us : List ScriptUnit). AreUnits asks 1 us script) e (are_units asks script)), (λ h. sym (no_others asks units script h)))
