use Rattle.std.proofs.Common.{sym, ap, ◌∙◌}
use Rattle.acl_rights.specs.Verdicts.{can_requests}
use Rattle.acl_rights.proofs.AskedAlong.{can_alone, can_along}
use Rattle.acl_rights.proofs.indexed.Verdicts.get.Goals as goal

pub returns-then-self : goal.returns-then-self
returns-then-self g c =
    let V = g.J.Judge.verdict_of in
    let s = c.args.self.now.state.now in
    c.get_reach.ensures.reach s c.index-index.ensures ∙ can_along V s c.args.user c.args.path.now ∙ ap (λ b. can_requests V b s c.args.user c.args.path.now) (sym c.if-self.true)

pub returns-else-self : goal.returns-else-self
returns-else-self g c =
    let V = g.J.Judge.verdict_of in
    let s = c.args.self.now.state.now in
    c.get.ensures.verdict s c.index-index.ensures ∙ can_alone V s c.args.user c.args.path.now ∙ ap (λ b. can_requests V b s c.args.user c.args.path.now) (sym c.if-self.false)
