use Rattle.std.proofs.Common.{set, sym, ap, ◌∙◌}
use Rattle.std.proofs.lemmas.Result.{IfOk-weaker}
use Rattle.kinds.specs.Kinds.{kinds_of}
use Rattle.kinds.proofs.Numbers.{counted_at, none_counted}
use Rattle.kinds.proofs.kinds.slots_with_count.Goals as goal

pub returns-in-None : goal.returns-in-None
returns-in-None g c = none_counted c.args.slots c.args.number c.args.count (sym c.in-None.ensures)

pub returns : goal.returns
returns g c =
    IfOk-weaker c.with.result _ _
    (λ new is. ap kinds_of (is ∙ ap (set c.args.slots c.args.number) c.in_ok-slot-in-Some.ensures)
    ∙ counted_at c.args.slots c.args.number c.in-Some.slot.now c.args.count (sym c.in-Some.ensures)) c.with.ensures
