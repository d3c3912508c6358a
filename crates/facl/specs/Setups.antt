-- The state before the first line of a script.
use Rattle.std.specs.Prelude.{ℕ, List, Option, None, Some, option_map, Result, Ok}
use Rattle.acl_text.specs.Results.{◌>>=◌, map_err}
use Rattle.acl_tree.specs.declared.command.Table.{Table}
use Rattle.acl_tree.specs.declared.command.Table.TheVariants.{Passwd, Group, Dump}
use Rattle.acl_tree.specs.State.{State, nothing}
use Rattle.acl_tree.specs.Loads.{load}
use Rattle.facl_output.specs.declared.fault.RunFault.{RunFault}
use Rattle.facl_output.specs.declared.fault.RunFault.TheVariants as runs
use Rattle.facl.specs.declared.setup.Setup.{Setup}

-- the state after a text is loaded, if there is one
abbrev pub with_text : Table → Option (List ℕ) → State → Result State RunFault
with_text which None s = Ok s
with_text which (Some text) s = map_err (λ fault. runs.Setup which fault) (load s which text)

-- the state once the texts that are there are loaded one after another, or the first fault
abbrev pub initial_state : Setup → Result State RunFault
initial_state setup = do
  s ← with_text Passwd (option_map (λ t. t.now) setup.passwd) nothing
  t ← with_text Group (option_map (λ t. t.now) setup.group) s
  with_text Dump (option_map (λ t. t.now) setup.dump) t
