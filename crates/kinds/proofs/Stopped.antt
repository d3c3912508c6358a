-- Where an edit stops.
use Rattle.std.proofs.Common.{◌≡◌, Result, Err}
use Rattle.kinds.specs.declared.edit.Stop.{Stop}
use Rattle.kinds.specs.declared.edit.Stop.TheVariants as stops
use Rattle.kinds.specs.Stops.{IsFaultOf}

-- where one call stops at its fault, another one stops at it
pub stops_too : {Y Z F : Type 0} (stop : Stop F) (a : Result Y F) (b : Result Z F) → ((fault : F) → a ≡ Err fault → b ≡ Err fault) → IsFaultOf stop a → IsFaultOf stop b
stops_too (stops.Fault fault) a b more is = more fault is
stops_too stops.NoMemory a b more is = tt
