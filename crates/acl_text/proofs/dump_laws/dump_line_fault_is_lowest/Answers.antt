use Rattle.acl_text.proofs.LowestLines.{line_lowest}
use Rattle.acl_text.proofs.dump_laws.dump_line_fault_is_lowest.Goals as goal

pub returns : goal.returns
returns c = λ naming draft line. line_lowest naming draft line
