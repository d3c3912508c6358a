use Rattle.std.proofs.Common.{[]}
use Rattle.acl_names.specs.Pieces.{pieces}
use Rattle.acl_text.specs.Entries.{rules_of, separator, one_more}
use Rattle.acl_text.proofs.Judging.{fault_is_first, first_is_fault}
use Rattle.acl_text.proofs.laws.entries_fault_is_first.Goals as goal

pub returns : goal.returns
returns c = λ naming sep want bytes fault. (
  fault_is_first (one_more naming sep (rules_of want)) 1 [] (pieces (separator sep) bytes) fault,
  first_is_fault (one_more naming sep (rules_of want)) 1 [] (pieces (separator sep) bytes) fault,
)
