use Rattle.acl_rights.proofs.changed_rows.known_number.Goals as goal

pub returns-then-is_same_label : goal.returns-then-is_same_label
returns-then-is_same_label c = (c.in_ok-row.row.now, (c.in_ok-row.ensures.node, (c.in_ok-row.ensures.entry, c.is_same_label.ensures c.if-is_same_label.true)))
