use Rattle.std.proofs.Common.{ap, arith}
use Rattle.acl_edit.specs.Rooms.{size}
use Rattle.acl_edit.proofs.Sizes.{none_left, size-empty}
use Rattle.acl_edit.proofs.steps.replace.Goals as goal

-- the list begins without entries
pub returns-in_err-modify : goal.returns-in_err-modify
returns-in_err-modify c =
    none_left _ c.from_residual.result _ _ c.from_residual.ensures.1 (λ short.
    c.in_err-modify.ensures (omega (arith, size-empty, ap size c.new.ensures)))
