use Rattle.path_classes.proofs.NumberedRows.{right_is}
use Rattle.path_classes.proofs.left_rows.class_row.Goals as goal

pub node-requires : goal.node-requires
node-requires c = let r = right_is c.args.labels.now c.args.classes.now c.args.number c.requires c.node-class.result.now c.node-class.ensures in (r.row, r.has_row)
