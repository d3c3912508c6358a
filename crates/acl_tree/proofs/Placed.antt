-- An edit of one file keeps its place.
use Rattle.std.proofs.Common.{◌≡◌, false, Option, Some, None, Ok, refl, ap, subst}
use Rattle.acl_edit.specs.declared.edit.Edit.{Edit}
use Rattle.acl_edit.specs.declared.node.Node.{Node}
use Rattle.acl_edit.proofs.Placed.{keeps_kind}
use Rattle.acl_tree.specs.Edits.{KeepsPlace}
use Rattle.acl_tree.specs.Restoring.{edit_if_some}
use Rattle.acl_tree.specs.Inner.{ok_or}

pub restore_keeps : (o : Option Edit) (n m : Node) → edit_if_some o n ≡ Ok m → KeepsPlace n m
restore_keeps (Some e) n m is = let keeps = keeps_kind n e false m is in record { kind = keeps.kind; default = keeps.sound }
restore_keeps None n m is = subst (λ x. KeepsPlace n x) (ap (ok_or n) is) (record { kind = refl; default = λ sound. sound })
