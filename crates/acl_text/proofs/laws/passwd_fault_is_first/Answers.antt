use Rattle.std.proofs.Common.{[]}
use Rattle.acl_names.specs.Pieces.{pieces}
use Rattle.acl_text.specs.Rows.{passwd_line}
use Rattle.acl_text.proofs.Judging.{fault_is_first, first_is_fault}
use Rattle.acl_text.proofs.laws.passwd_fault_is_first.Goals as goal

pub returns : goal.returns
returns c = λ bytes fault. (fault_is_first passwd_line 1 [] (pieces 10 bytes) fault, first_is_fault passwd_line 1 [] (pieces 10 bytes) fault)
