use Rattle.std.proofs.Common.{Some, ap, ◌∙◌}
use Rattle.acl_edit.specs.Edits.{restore}
use Rattle.acl_edit.proofs.Restored.{gives_back}
use Rattle.acl_edit.proofs.edit.Edit.restoring.Goals as goal

-- the record has the file's own lists
pub returns-clause-gives_back : goal.returns-clause-gives_back
returns-clause-gives_back c = λ sound n in_recursion same.
    let m = c.args.node.now in
    ap (λ acl. restore n acl c.in_ok-clone_of.field-0 (Some m.label.owner) (Some m.label.group) (Some m.flags) in_recursion) c.in_ok-try_clone.ensures.ok
    ∙ ap (λ dacl. restore n m.label.acl dacl (Some m.label.owner) (Some m.label.group) (Some m.flags) in_recursion) c.in_ok-clone_of.ensures
    ∙ gives_back m n in_recursion sound same
