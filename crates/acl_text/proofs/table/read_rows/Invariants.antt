use Rattle.std.proofs.Common.{◌≡◌, ◌≤◌, ◌+◌, length}
use Rattle.acl_names.specs.Pieces.{pieces}
use Rattle.acl_text.specs.InTurn.{read_each_from}
use Rattle.acl_text.specs.Seen.{SeenNamesAre}
use Rattle.acl_text.specs.Rows.{one_line, rows_of}
use Rattle.acl_text.proofs.table.read_rows.Given as goal

abbrev pub invariant-loop-rest : goal.invariant-loop-rest
invariant-loop-rest g l =
    let name_of = g.R.TableRow.name in
    let row_of = g.R.TableRow.of_fields in
    record {
      place : l.at + length l.rest ≤ length l.bytes;
      seen : SeenNamesAre name_of l.seen l.rows.items;
      goes_on : read_each_from (λ at rows line. one_line name_of row_of rows line) (l.at + 1) l.rows.items (pieces 10 l.rest) ≡ rows_of name_of row_of l.bytes;
    }

abbrev pub decreases-loop-rest : goal.decreases-loop-rest
decreases-loop-rest g l = length l.rest
