use Rattle.std.proofs.Common.{ap, ◌∙◌, arith}
use Rattle.acl_entry.specs.declared.entry.Key.TheVariants.{Owner, OwningGroup, Other}
use Rattle.acl_edit.specs.Rooms.{size}
use Rattle.acl_edit.specs.Steps.{fill_one}
use Rattle.acl_edit.proofs.Sizes.{none_left, size-fill_one, leaves_in}
use Rattle.acl_edit.proofs.steps.fill_from.Goals as goal

-- three entries more find room
pub returns-in_err-fill_one-2 : goal.returns-in_err-fill_one-2
returns-in_err-fill_one-2 c =
    none_left _ c.from_residual-in_err-fill_one-2.result _ _ c.from_residual-in_err-fill_one-2.ensures.1 (λ short.
    c.in_err-fill_one-2.ensures (omega (arith, ap size c.in_ok-fill_one.ensures, size-fill_one c.args.other.now c.args.draft.now Owner)))

pub returns : goal.returns
returns c =
    let other = c.args.other.now in
    leaves_in c.fill_one-3.result c.fill_one-3.new.draft _ _
    (λ short. omega (
      arith,
      short,
      ap size c.in_ok-fill_one.ensures,
      size-fill_one other c.args.draft.now Owner,
      ap size c.in_ok-fill_one-2.ensures,
      size-fill_one other c.fill_one.new.draft OwningGroup,
    ))
    (ap (λ m. fill_one other m Other) (c.in_ok-fill_one-2.ensures ∙ ap (λ m. fill_one other m OwningGroup) c.in_ok-fill_one.ensures))
    c.fill_one-3.ensures
