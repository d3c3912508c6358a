use Rattle.std.proofs.Common.{map, sym, subst}
use Rattle.acl_names.proofs.Bytes.{all_bytes}
use Rattle.acl_people.specs.NameTables.{AreCounted}
use Rattle.acl_people.specs.Entries.{user_entry}
use Rattle.acl_people.proofs.Texts.{passwd_counted}
use Rattle.acl_people.proofs.users.Users.read.Goals as goal

pub of-requires : goal.of-requires
of-requires c = subst (λ rows. AreCounted (map user_entry rows)) (sym c.in_ok-each_shared.ensures)
    (passwd_counted c.args.bytes.now c.in_ok-rows.rows.items (all_bytes c.args.bytes.now c.type_inv.bytes) c.in_ok-rows.ensures)
