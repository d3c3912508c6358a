use Rattle.std.proofs.Common.{ℕ, List, subst}
use Rattle.acl_tree.specs.declared.command.Command.TheVariants.{Gpasswd}
use Rattle.facl_tools.specs.Operands.{name_meant}
use Rattle.facl_tools.specs.Replies.{Replies, done}
use Rattle.facl_tools.proofs.gpasswd.answer.Goals as goal

pub returns : goal.returns
returns c =
    let s = c.args.state.now in
    let gives = λ (user group : List ℕ). Replies s c.effect_of.result (done s (Gpasswd user group c.args.line.change)) in
    let by_group = subst (gives c.in_ok-user.user) c.in_ok-group.ensures c.effect_of.ensures in
    subst (λ (user : List ℕ). gives user (name_meant c.args.line.group)) c.in_ok-user.ensures by_group
