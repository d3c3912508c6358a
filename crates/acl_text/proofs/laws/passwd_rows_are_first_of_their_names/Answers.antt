use Rattle.acl_text.specs.Rows.{passwd_name, passwd_row}
use Rattle.acl_text.proofs.CountedRows.{counted_are}
use Rattle.acl_text.proofs.laws.passwd_rows_are_first_of_their_names.Goals as goal

pub returns : goal.returns
returns c = counted_are passwd_name passwd_row
