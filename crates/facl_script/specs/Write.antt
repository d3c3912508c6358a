-- What is written of some bytes, and of a unit's answer.
use Rattle.std.specs.Prelude.{◌≡◌, ◌<◌, ℕ, List, [], ◌⊎◌, length, take, Option, Result, OnOk, OnErr, IfErr, MatchResult}
use Rattle.std.specs.Io.KnownBytes.{Appends}
use Rattle.facl_script.specs.declared.fault.ScriptFault.{ScriptFault}
use Rattle.facl_script.specs.declared.fault.ScriptFault.TheVariants.{Write}
use Rattle.facl_script.specs.Devices.{AppendsPart}
use Rattle.facl_script.specs.Streams.{Streams}

-- A writer grows by all of the bytes. Or it fails, and grows by a proper beginning of them.
abbrev pub WritesWhole : {A : Type 0} → Result A ScriptFault → (old new : Option (List ℕ)) → List ℕ → Type 0
WritesWhole result old new bs =
    OnOk result (Appends old new bs) × OnErr result (AppendsPart old new bs) × IfErr result (λ fault. fault ≡ Write)

-- both writers grow by their part
pub record Writes (old new : Streams) (to_out to_err : List ℕ) : Type 0 where
  pub out_grows : Appends old.out new.out to_out
  pub err_grows : Appends old.err new.err to_err

-- A proper beginning of what is to be written. No byte of err comes before all of out.
abbrev pub IsPartOfBoth : (part_out part_err to_out to_err : List ℕ) → Type 0
IsPartOfBoth part_out part_err to_out to_err =
    ((n : ℕ) × (n < length to_out) × (part_out ≡ take n to_out) × (part_err ≡ []))
    ⊎ ((n : ℕ) × (n < length to_err) × (part_out ≡ to_out) × (part_err ≡ take n to_err))

-- both writers grow by a proper beginning of what was to be written
pub record WritesPart (old new : Streams) (to_out to_err : List ℕ) : Type 0 where
  pub part_out : List ℕ
  pub part_err : List ℕ
  pub part : IsPartOfBoth part_out part_err to_out to_err
  pub writes : Writes old new part_out part_err

-- Both writers grow by their part. Or one fails, and both grow by a proper beginning of what was to be written.
abbrev pub WritesAnswer : {A : Type 0} → Result A ScriptFault → (old new : Streams) (to_out to_err : List ℕ) → Type 0
WritesAnswer result old new to_out to_err =
    MatchResult result (λ _. Writes old new to_out to_err) (λ fault. WritesPart old new to_out to_err × (fault ≡ Write))
