use Rattle.std.proofs.Common.{subst, sym, ap, ◌∙◌}
use Rattle.acl_rights.specs.Tables.{FindsUsers}
use Rattle.acl_rights.specs.Verdicts.{users_granted}
use Rattle.acl_rights.proofs.AskedAlong.{who_alone, who_along}
use Rattle.acl_rights.proofs.indexed.Verdicts.who.Goals as goal

pub returns-then-self : goal.returns-then-self
returns-then-self g c =
    let V = g.J.Judge.verdict_of in
    let s = c.args.self.now.state.now in
    subst (FindsUsers c.who_reach.result)
    (who_along V s c.args.path.now c.args.request ∙ ap (λ b. users_granted V b s c.args.path.now c.args.request) (sym c.if-self.true))
    (c.who_reach.ensures.whole s c.index-index.ensures)

pub returns-else-self : goal.returns-else-self
returns-else-self g c =
    let V = g.J.Judge.verdict_of in
    let s = c.args.self.now.state.now in
    subst (FindsUsers c.who.result)
    (who_alone V s c.args.path.now c.args.request ∙ ap (λ b. users_granted V b s c.args.path.now c.args.request) (sym c.if-self.false))
    (c.who.ensures.whole s c.index-index.ensures)
