use Rattle.acl_tree.proofs.SameNodes.{same_node}
use Rattle.acl_tree.proofs.alike.is_same_node.Goals as goal

pub returns-then-same_label : goal.returns-then-same_label
returns-then-same_label c = λ same. same_node c.args.one.now c.args.other.now (c.is_same_kind.ensures (c.if-not-is_same_kind.false))
    (c.same_label.ensures.0 c.if-same_label.true) (c.has_same_flags.ensures c.if-not-has_same_flags.false) (c.is_same_default.ensures same)
