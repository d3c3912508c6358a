use Rattle.std.proofs.Common.{ap, arith}
use mathlib.Core.Bool.{false≢true}
use Rattle.acl_entry.specs.declared.entry.Key.TheVariants.{Owner, OwningGroup}
use Rattle.acl_edit.specs.Rooms.{size}
use Rattle.acl_edit.proofs.Sizes.{size-empty, size-put_some}
use Rattle.acl_edit.proofs.steps.strip.Goals as goal

-- three entries find room
pub returns-in_err-put_some-clause-room : goal.returns-in_err-put_some-clause-room
returns-in_err-put_some-clause-room c = absurd (false≢true (c.in_err-put_some.ensures (omega (arith, size-empty, ap size c.new-kept.ensures))))

pub returns-in_err-put_some-2-clause-room : goal.returns-in_err-put_some-2-clause-room
returns-in_err-put_some-2-clause-room c =
    let one = ap size c.in_ok-put_some.ensures in
    absurd (false≢true (c.in_err-put_some-2.ensures (omega (arith, size-empty, ap size c.new-kept.ensures, one, size-put_some c.new-kept.result Owner c.effective.result))))

pub returns-in_err-put_some-3-clause-room : goal.returns-in_err-put_some-3-clause-room
returns-in_err-put_some-3-clause-room c =
    let one = ap size c.in_ok-put_some.ensures in
    let two = ap size c.in_ok-put_some-2.ensures in
    absurd (false≢true (c.in_err-put_some-3.ensures
    (omega (arith, size-empty, ap size c.new-kept.ensures, one, two, size-put_some c.new-kept.result Owner c.effective.result, size-put_some c.put_some.new.draft OwningGroup c.effective-2.result))))
