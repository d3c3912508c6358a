use Rattle.acl_text.specs.Entries.{rules_of}
use Rattle.acl_text.proofs.InOrder.{read_in_order}
use Rattle.acl_text.proofs.laws.entries_are_read_in_order.Goals as goal

pub returns : goal.returns
returns c = λ naming sep want. read_in_order naming sep (rules_of want)
