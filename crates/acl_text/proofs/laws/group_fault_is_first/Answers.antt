use Rattle.std.proofs.Common.{[]}
use Rattle.acl_names.specs.Pieces.{pieces}
use Rattle.acl_text.specs.Rows.{group_line}
use Rattle.acl_text.proofs.Judging.{fault_is_first, first_is_fault}
use Rattle.acl_text.proofs.laws.group_fault_is_first.Goals as goal

pub returns : goal.returns
returns c = λ bytes fault. (fault_is_first group_line 1 [] (pieces 10 bytes) fault, first_is_fault group_line 1 [] (pieces 10 bytes) fault)
