use Rattle.std.proofs.Common.{sym, subst}
use Rattle.acl_names.proofs.Basics.{false_is_not_true}
use Rattle.acl_tree.specs.Files.{Recorded}
use Rattle.acl_tree.specs.Changed.{SameBut}
use Rattle.acl_tree.specs.Operands.{in_region}
use Rattle.acl_tree.proofs.step.Staged.of.Goals as goal

pub invariant_of-result : goal.invariant_of-result
invariant_of-result c = (
  subst (λ (t : Recorded). SameBut (in_region c.args.touched) c.args.before.files t.files) (sym c.of.ensures) c.requires,
  λ h. absurd (false_is_not_true h),
)
