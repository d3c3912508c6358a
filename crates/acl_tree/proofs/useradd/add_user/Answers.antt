use Rattle.std.proofs.Common.{◌≡◌, ◌≢◌, length, Err, arith, ap, sym, subst, ◌∙◌}
use Rattle.std.proofs.lemmas.Grind.{common_steps}
use Rattle.std.proofs.lemmas.Result.{err_from_is_err_and}
use Rattle.acl_tree.specs.declared.fault.TreeFault.{TreeFault}
use Rattle.acl_tree.specs.declared.fault.TreeFault.TheVariants.{NoMemory}
use Rattle.acl_tree.specs.Useradd.{useradd}
use Rattle.acl_tree.specs.InnerCommands.{Gives}
use Rattle.acl_tree.proofs.useradd.add_user.Goals as goal

pub returns-in_err-group-clause-made : goal.returns-in_err-group-clause-made
returns-in_err-group-clause-made c =
    let known = c.args.people.now in
    let fault = c.in_err-group.field-0.0 in
    let result = c.from_residual-in_err-group.result in
    let p = err_from_is_err_and result c.from_residual-in_err-group.ensures.1 in
    let is : fault ≢ NoMemory → useradd c.args.new.now known ≡ Err fault = grind (arith, common_steps) in
    subst (λ r. Gives (λ next. record { user = length known.users; people = next }) r (useradd c.args.new.now known)) (sym (p.1 ∙ ap (λ (f : TreeFault). Err f) p.2)) is
