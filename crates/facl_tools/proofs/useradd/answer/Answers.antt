use Rattle.std.proofs.Common.{ℕ, List, subst}
use Rattle.acl_tree.specs.declared.command.Command.TheVariants.{Useradd}
use Rattle.acl_tree.specs.declared.command.NewUser.{NewUser}
use Rattle.facl_tools.specs.Replies.{Replies, done}
use Rattle.facl_tools.proofs.useradd.answer.Goals as goal

pub returns : goal.returns
returns c =
    let s = c.args.state.now in
    let line = c.args.line in
    let new_in : List ℕ → NewUser = λ group. record { name = line.name; uid = line.uid; group = group } in
    subst (λ (group : List ℕ). Replies s c.effect_of.result (done s (Useradd (new_in group)))) c.in_ok-group.ensures c.effect_of.ensures
