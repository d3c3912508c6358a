use Rattle.std.proofs.Common.{◌≡◌}
use Rattle.acl_names.specs.Below.{common}
use Rattle.acl_names.proofs.path_ref.PathRef.without_others.Given as goal

abbrev pub invariant-loop : goal.invariant-loop
invariant-loop l = common l.top l.other ≡ common l.self l.other
