use Rattle.std.proofs.Common.{ℕ, List, subst}
use Rattle.acl_tree.specs.declared.command.Command.TheVariants.{Userdel}
use Rattle.facl_tools.specs.Replies.{Replies, done}
use Rattle.facl_tools.proofs.userdel.answer.Goals as goal

pub returns : goal.returns
returns c =
    let s = c.args.state.now in
    subst (λ (user : List ℕ). Replies s c.effect_of.result (done s (Userdel user))) c.in_ok-user.ensures c.effect_of.ensures
