-- An edit of one file keeps its place.
use Rattle.std.proofs.Common.{◌≡◌, Bool, Ok}
use Rattle.acl_edit.specs.declared.edit.Edit.{Edit}
use Rattle.acl_edit.specs.declared.node.Node.{Node}
use Rattle.acl_edit.proofs.Placed.{keeps_kind}
use Rattle.acl_names.specs.Paths.{PathOf}
use Rattle.acl_tree.specs.Edits.{KeepsPlace}
use Rattle.acl_tree.specs.EditCommand.{edit_one}

pub edit_keeps : (e : Edit) (recursive : Bool) (p : PathOf) (n m : Node) → edit_one e recursive p n ≡ Ok m → KeepsPlace n m
edit_keeps e recursive p n m is = let keeps = keeps_kind n e recursive m is in record { kind = keeps.kind; default = keeps.sound }
