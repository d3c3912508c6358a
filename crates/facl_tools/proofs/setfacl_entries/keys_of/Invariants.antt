use Rattle.std.proofs.Common.{◌≡◌, drop}
use Rattle.std.specs.Prelude.{fold}
use Rattle.facl_tools.specs.RemovedKeys.{keys_of, with_key}
use Rattle.facl_tools.proofs.setfacl_entries.keys_of.Given as goal

abbrev pub invariant-loop-spec : goal.invariant-loop-spec
invariant-loop-spec l = fold (with_key l.dflt) l.keys (drop l.spec-index l.specs) ≡ keys_of l.dflt l.specs
