use Rattle.std.proofs.lemmas.Bool.Decides.{same_from_decides}
use Rattle.acl_tree.specs.Changed.{same_label}
use Rattle.acl_tree.proofs.Changes.{label_decides}
use Rattle.acl_tree.proofs.differences.is_same_label.Goals as goal

pub returns : goal.returns
returns c =
    same_from_decides c.same_label.result (same_label c.args.old.now.label c.args.new.now.label) c.same_label.ensures (label_decides c.args.old.now.label c.args.new.now.label)
