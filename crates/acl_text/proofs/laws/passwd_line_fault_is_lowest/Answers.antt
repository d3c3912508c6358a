use Rattle.acl_text.specs.Rows.{passwd_name, passwd_row}
use Rattle.acl_text.proofs.LowestRows.{line_lowest}
use Rattle.acl_text.proofs.laws.passwd_line_fault_is_lowest.Goals as goal

pub returns : goal.returns
returns c = λ at rows line means. line_lowest passwd_name passwd_row rows line means
