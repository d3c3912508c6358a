use Rattle.std.proofs.Common.{◌≡◌, true, false, ◌∷◌, [], ◌++◌, Ok, ap, refl, subst, sym, ◌∙◌}
use Rattle.std.proofs.lemmas.List.{map-append}
use Rattle.std.proofs.lemmas.Result.{err_from_is_err_and}
use Rattle.acl_names.specs.Paths.{PathOf}
use Rattle.acl_edit.specs.declared.node.Node.{Node}
use Rattle.acl_tree.specs.Files.{Files}
use Rattle.acl_tree.specs.Inner.{RestoredFile, IsPutOrLeft, PutsOrLeaves, restored_by, paths_in}
use Rattle.acl_tree.proofs.Restored.{refused_first}
use Rattle.acl_tree.proofs.restore.put_restored.Goals as goal

pub returns-then-is_as_recorded-clause-made : goal.returns-then-is_as_recorded-clause-made
returns-then-is_as_recorded-clause-made c =
    subst (λ (x : RestoredFile). IsPutOrLeft x c.args.puts.1 c.args.puts.1) c.file.view_is (record {
      node = c.file.inside.node.now;
      made = c.is_as_recorded.ensures c.if-is_as_recorded.true;
      puts = record { first = false; is = (refl, refl) };
    })

pub returns-in_err-node-clause-refused : goal.returns-in_err-node-clause-refused
returns-in_err-node-clause-refused c =
    let x : RestoredFile = c.args.file.now in
    let e : PathOf × Node = (c.file.inside.entry.now.path, c.file.inside.node.now) in
    let is : e ≡ x.0 = ap (λ (x : RestoredFile). x.0) c.file.view_is in
    let p = err_from_is_err_and c.from_residual.result c.from_residual.ensures.1 in
    rw (p.1, p.2) (λ some rest. refused_first x e rest c.in_err-node.field-0.0 is (c.in_err-node.ensures some))

pub returns-clause-before : goal.returns-clause-before
returns-clause-before c = ap (λ (p : Files × Files). p.0) c.in_ok-puts.ensures

pub returns-clause-made : goal.returns-clause-made
returns-clause-made c =
    let x : RestoredFile = c.args.file.now in
    let node : Node = c.in_ok-node.node in
    let after : Files = c.in_ok-puts.puts.1 in
    let e : PathOf × Node = (c.file.inside.entry.now.path, c.file.inside.node.now) in
    let is : e ≡ x.0 = ap (λ (x : RestoredFile). x.0) c.file.view_is in
    record {
      node = node;
      made = subst (λ (e : PathOf × Node). restored_by x.1 e.1 ≡ Ok node) is c.in_ok-node.ensures;
      puts = subst (λ (e : PathOf × Node). PutsOrLeaves c.args.puts.1 e node after) is (record { first = true; is = ap (λ (p : Files × Files). p.1) c.in_ok-puts.ensures });
    }

pub returns-clause-touched : goal.returns-clause-touched
returns-clause-touched c = λ same.
    ap (λ (p : Files × Files). paths_in p.1) c.in_ok-puts.ensures
    ∙ map-append (λ e. e.0) c.args.puts.1 ((c.file.inside.entry.now.path, c.in_ok-node.node) ∷ [])
    ∙ (λ i. same i ++ sym c.in_ok-try_clone.ensures i ∷ [])
    ∙ sym c.in_ok-push.ensures.items
