use Rattle.acl_text.proofs.ReadBack.{faulty_where}
use Rattle.acl_text.proofs.attr_laws.attribute_fault_is_first.Goals as goal

pub returns : goal.returns
returns c = λ bytes fault e.
    let read_each = faulty_where bytes fault e in
    (read_each.kind, read_each.place)
