use Rattle.acl_text.specs.Rows.{group_name, group_row}
use Rattle.acl_text.proofs.CountedRows.{counted_are}
use Rattle.acl_text.proofs.laws.group_rows_are_first_of_their_names.Goals as goal

pub returns : goal.returns
returns c = counted_are group_name group_row
