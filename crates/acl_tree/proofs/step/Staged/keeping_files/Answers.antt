use Rattle.std.proofs.Common.{ap, ◌∙◌}
use Rattle.acl_tree.proofs.step.Staged.keeping_files.Goals as goal

pub invariant_of-result : goal.invariant_of-result
invariant_of-result c = (c.self.invariant.0, λ h. ap (λ s. s.gone) c.self.view_is ∙ c.requires)
