-- The paths of operands, one after another.
use Rattle.std.proofs.Common.{List, ◌++◌, Result, Ok}
use Rattle.acl_names.specs.Paths.{PathOf}
use Rattle.facl_output.specs.declared.fault.LineFault.{LineFault}
use Rattle.acl_text.specs.Results.{◌>>=◌}

-- these paths, and those that come after them
abbrev pub after_those : List PathOf → Result (List PathOf) LineFault → Result (List PathOf) LineFault
after_those done r = r >>= λ paths. Ok (done ++ paths)
