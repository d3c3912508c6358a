use Rattle.std.proofs.Common.{ap, sym, ◌∙◌}
use Rattle.acl_tree.proofs.step.Staged.keeps_files.Goals as goal

pub returns : goal.returns
returns c h = ap (λ s. s.gone) (sym c.self.view_is) ∙ c.self.invariant.1 h
