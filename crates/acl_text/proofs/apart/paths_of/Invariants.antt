use Rattle.std.proofs.Common.{◌≡◌, take}
use Rattle.std.specs.Prelude.{map}
use Rattle.acl_text.specs.RoundTrips.{paths}
use Rattle.acl_text.proofs.apart.paths_of.Given as goal

abbrev pub invariant-loop-record : goal.invariant-loop-record
invariant-loop-record l = map (λ p. p.now) l.all.items ≡ paths (take l.record-index l.records)
