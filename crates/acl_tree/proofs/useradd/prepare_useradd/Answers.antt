use Rattle.std.proofs.Common.{Err, refl, ap, ◌∙◌}
use Rattle.std.proofs.lemmas.Result.{err_from_is_err_and}
use Rattle.acl_tree.specs.declared.fault.TreeFault.{TreeFault}
use Rattle.acl_tree.specs.Useradd.{useradd}
use Rattle.acl_tree.specs.Step.{nameless}
use Rattle.acl_tree.proofs.AtOnce.{passed_on}
use Rattle.acl_tree.proofs.useradd.prepare_useradd.Goals as goal

pub returns-in_err-next-clause-at_once : goal.returns-in_err-next-clause-at_once
returns-in_err-next-clause-at_once c =
    let fault = c.in_err-next.field-0.0 in
    let p = err_from_is_err_and c.from_residual.result c.from_residual.ensures.1 in
    passed_on (Err fault) fault c.from_residual.result refl (p.1 ∙ ap (λ (f : TreeFault). Err f) p.2) (nameless (useradd c.args.new.now c.args.state.now.people.now)) c.in_err-next.ensures.at_once
