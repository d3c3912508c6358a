-- A setup has no fault but that of a text; and how a run has ended whose setup has one.
use Rattle.std.proofs.Common.{◌≡◌, ℕ, Result, Ok, Err, inl, refl, subst, arith}
use Rattle.acl_rights.specs.Deciders.{Judging}
use Rattle.acl_text.specs.Results.{◌>>=◌, map_err}
use Rattle.acl_tree.specs.State.{State, nothing}
use Rattle.acl_tree.specs.Loads.{load}
use Rattle.acl_tree.specs.declared.command.Table.{Table}
use Rattle.acl_tree.specs.declared.command.Table.TheVariants.{Passwd, Group, Dump}
use Rattle.acl_tree.specs.declared.fault.TreeFault.{TreeFault}
use Rattle.std.specs.Prelude.{◌≢◌, List, Option, Some, None, option_map, ⊤}
use Rattle.facl_output.specs.declared.fault.RunFault.{RunFault}
use Rattle.facl_output.specs.declared.fault.RunFault.TheVariants as runs
use Rattle.facl.specs.Runs.{Devices, EndsBy, IsUntouched}
use Rattle.facl.specs.Setups.{initial_state, with_text}
use Rattle.facl.specs.declared.setup.Setup.{Setup}

abbrev IsOfText : Result State RunFault → Type 0
IsOfText (Ok s) = ⊤
IsOfText (Err (runs.Setup which fault)) = ⊤
IsOfText (Err fault) = ⊥

of_load : (which : Table) (r : Result State TreeFault) → IsOfText (map_err (λ fault. runs.Setup which fault) r)
of_load which (Ok s) = tt
of_load which (Err fault) = tt

of_one : (which : Table) (text : Option (List ℕ)) (s : State) → IsOfText (with_text which text s)
of_one which None s = tt
of_one which (Some text) s = of_load which (load s which text)

of_next : (r : Result State RunFault) (next : State → Result State RunFault) → IsOfText r → ((s : State) → IsOfText (next s)) → IsOfText (r >>= next)
of_next (Ok s) next of_r of_s = of_s s
of_next (Err fault) next of_r of_s = of_r

of_text : (setup : Setup) → IsOfText (initial_state setup)
of_text setup =
    of_next (with_text Passwd (option_map (λ t. t.now) setup.passwd) nothing) _ (of_one Passwd (option_map (λ t. t.now) setup.passwd) nothing)
    (λ s. of_next (with_text Group (option_map (λ t. t.now) setup.group) s) _ (of_one Group (option_map (λ t. t.now) setup.group) s)
    (λ t. of_one Dump (option_map (λ t. t.now) setup.dump) t))

module _ (judge : Judging) (setup : Setup) (old new : Devices) where
  -- nothing is judged, read or written where the setup has a fault, or memory ran out for it
  pub ends_by_setup : (fault : RunFault) → (fault ≢ runs.NoMemory → initial_state setup ≡ Err fault) → IsUntouched old new → EndsBy fault judge (initial_state setup) 0 old new
  ends_by_setup (runs.Setup which fault) is untouched = (is (λ e. cc), refl, untouched)
  ends_by_setup runs.NoMemory is untouched = inl (record { untouched = untouched; asks = omega arith })
  ends_by_setup runs.Read is untouched = absurd (subst IsOfText (is (λ e. cc)) (of_text setup))
  ends_by_setup runs.Write is untouched = absurd (subst IsOfText (is (λ e. cc)) (of_text setup))
  ends_by_setup runs.ScriptTooLong is untouched = absurd (subst IsOfText (is (λ e. cc)) (of_text setup))
