use Rattle.std.proofs.Common.{sym, ap, ◌∙◌, ltb-true, ltb-false}
use Rattle.std.specs.Ordering.{is_lt}
use Rattle.path_classes.proofs.TopsOf.{next_first, next_less, next_other, next_second}
use Rattle.path_classes.proofs.top_paths.next_path.Goals as goal

pub returns-then-is_lt : goal.returns-then-is_lt
returns-then-is_lt g c =
    next_less c.args.changed.now c.args.gone.now c.args.change c.args.other c.in-Some.first.now
    (ltb-true _ _ (sym c.in-Some.ensures.lookup.0), c.in-Some.ensures.lookup.1) c.in-Some-get.second.now (ltb-true _ _ (sym c.in-Some-get.ensures.lookup.0), c.in-Some-get.ensures.lookup.1)
    (ap is_lt (sym c.order.ensures) ∙ sym c.is_lt.ensures ∙ c.if-is_lt.true)

pub returns-else-is_lt : goal.returns-else-is_lt
returns-else-is_lt g c =
    next_other c.args.changed.now c.args.gone.now c.args.change c.args.other c.in-Some.first.now
    (ltb-true _ _ (sym c.in-Some.ensures.lookup.0), c.in-Some.ensures.lookup.1) c.in-Some-get.second.now (ltb-true _ _ (sym c.in-Some-get.ensures.lookup.0), c.in-Some-get.ensures.lookup.1)
    (ap is_lt (sym c.order.ensures) ∙ sym c.is_lt.ensures ∙ c.if-is_lt.false)

pub returns-in-None-get : goal.returns-in-None-get
returns-in-None-get g c = next_first c.args.changed.now c.args.gone.now c.args.change c.args.other c.in-Some.first.now
    (ltb-true _ _ (sym c.in-Some.ensures.lookup.0), c.in-Some.ensures.lookup.1) (ltb-false _ _ (sym c.in-None-get.ensures.lookup.0))

pub returns-in-Some-get-2 : goal.returns-in-Some-get-2
returns-in-Some-get-2 g c = next_second c.args.changed.now c.args.gone.now c.args.change c.args.other
    (ltb-false _ _ (sym c.in-None.ensures.lookup.0)) c.in-Some-get-2.second.now (ltb-true _ _ (sym c.in-Some-get-2.ensures.lookup.0), c.in-Some-get-2.ensures.lookup.1)
