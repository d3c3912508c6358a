use Rattle.std.proofs.Common.{Err, refl, ap, ◌∙◌}
use Rattle.std.proofs.lemmas.Result.{err_from_is_err_and}
use Rattle.acl_tree.specs.declared.fault.TreeFault.{TreeFault}
use Rattle.acl_tree.specs.Gpasswd.{membership_changed}
use Rattle.acl_tree.proofs.AtOnce.{change_passed_on}
use Rattle.acl_tree.proofs.gpasswd.prepare_gpasswd.Goals as goal

pub returns-in_err-next-clause-at_once : goal.returns-in_err-next-clause-at_once
returns-in_err-next-clause-at_once c =
    let fault = c.in_err-next.field-0.0 in
    let result = c.from_residual-in_err-next.result in
    let p = err_from_is_err_and result c.from_residual-in_err-next.ensures.1 in
    rw (c.in_ok-user.ensures.found, c.in_ok-group.ensures.found)
    (change_passed_on (Err fault) fault result refl (p.1 ∙ ap (λ (f : TreeFault). Err f) p.2) c.in_ok-user.user
    (membership_changed c.in_ok-user.user c.in_ok-group.group c.args.change c.args.state.now.people.now) c.in_err-next.ensures.at_once)
