use Rattle.acl_text.specs.Rows.{group_name, group_row}
use Rattle.acl_text.proofs.LowestRows.{line_lowest}
use Rattle.acl_text.proofs.laws.group_line_fault_is_lowest.Goals as goal

pub returns : goal.returns
returns c = λ at rows line means. line_lowest group_name group_row rows line means
