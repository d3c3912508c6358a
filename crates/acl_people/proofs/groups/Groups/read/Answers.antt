use Rattle.acl_names.proofs.Bytes.{all_bytes}
use Rattle.acl_people.proofs.Texts.{group_counted}
use Rattle.acl_people.proofs.groups.Groups.read.Goals as goal

pub of-requires : goal.of-requires
of-requires c = group_counted c.args.bytes.now c.in_ok-rows.rows.items (all_bytes c.args.bytes.now c.type_inv.bytes) c.in_ok-rows.ensures
