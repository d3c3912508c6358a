use Rattle.acl_text.specs.Lines.{content_of}
use Rattle.acl_text.proofs.LowestLines.{file_lowest}
use Rattle.acl_text.proofs.dump_laws.dump_file_fault_is_lowest.Goals as goal

pub returns : goal.returns
returns c = λ records line begins_one. file_lowest records line.0 (content_of line.1).1
