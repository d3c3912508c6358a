use Rattle.std.proofs.Common.{sym, ◌∙◌}
use Rattle.acl_names.proofs.Tops.{starts_alike_more, ends_after}
use Rattle.acl_names.proofs.components.Components.after_common.Goals as goal

pub loop-other-preserved : goal.loop-other-preserved
loop-other-preserved c =
    starts_alike_more c.args.self c.args.others c.loop-other.rest c.loop-other.against c.next-in-Some.new.self c.next.new.self c.in-Some-next.name.now c.in-Some.other.now c.loop-other.invariant
    (sym c.again-more.ensures ∙ c.in-Some-next.ensures.steps) c.in-Some.ensures.steps (sym c.cmp.ensures ∙ c.in-Equal.is)

pub returns : goal.returns
returns c = ends_after c.args.self c.args.others c.loop-other.rest c.loop-other.against c.loop-other.invariant c.in_default.ensures.steps.0
