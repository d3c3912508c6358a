use Rattle.std.proofs.Common.{ap, sym, ◌∙◌}
use Rattle.acl_tree.proofs.step.Staged.gone.Goals as goal

pub returns-then-self : goal.returns-then-self
returns-then-self c = c.none_beside.ensures ∙ sym (c.self.invariant.1 c.if-self.true) ∙ ap (λ s. s.gone) c.self.view_is
