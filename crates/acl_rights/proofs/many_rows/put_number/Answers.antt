use Rattle.std.proofs.Common.{subst}
use Rattle.std.specs.Prelude.{IfSome}
use Rattle.kinds.specs.Numbered.{entries_in}
use Rattle.kinds.specs.Placed.{IsOfEntry}
use Rattle.acl_rights.proofs.RowsOfNumbers.{of_entries_more}
use Rattle.acl_rights.proofs.many_rows.put_number.Goals as goal

pub returns : goal.returns
returns c =
    let es = entries_in c.args.rows.now in
    of_entries_more c.args.known.now.rows.items c.put.new.self.rows.items c.in-Some.row c.in_ok-put.ensures es c.requires
    (subst (λ o. IfSome o (λ node. IsOfEntry node.value es)) c.in-Some.is c.in_ok-some.ensures.entry)
