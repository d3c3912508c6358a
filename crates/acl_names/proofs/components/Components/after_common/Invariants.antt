use Rattle.acl_names.proofs.Tops.{StartsAlike}
use Rattle.acl_names.proofs.components.Components.after_common.Given as goal

abbrev pub invariant-loop-other : goal.invariant-loop-other
invariant-loop-other l = StartsAlike l.fn.self l.fn.others l.rest l.against
