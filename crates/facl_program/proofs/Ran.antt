-- What the program has done once its texts are there: it answered the script, or its run ended before that.
use Rattle.std.proofs.Common.{◌≡◌, ℕ, List, Option, Some, None, Result, Err, sym, subst}
use Rattle.std.specs.Prelude.{◌≢◌, IfSome}
use Rattle.facl.specs.Asking.{RunsAsking}
use Rattle.facl.specs.Headline.{RunsTo}
use Rattle.facl.specs.Runs.{Devices, IsUntouched}
use Rattle.facl.specs.Setups.{initial_state}
use Rattle.facl.specs.declared.setup.Setup.{Setup}
use Rattle.facl.specs.declared.status.Status.{Status}
use Rattle.facl.specs.acl_rights.Deciders.{Judging}
use Rattle.facl.specs.facl_output.declared.fault.RunFault.{RunFault}
use Rattle.facl.specs.facl_output.declared.fault.RunFault.TheVariants.{NoMemory}
use Rattle.facl.proofs.SetupFaults.{ends_by_setup}
use Rattle.facl_script.specs.Streams.{Streams}
use Rattle.facl_program.specs.FileStores.{Bytes}
use Rattle.facl_program.specs.Files.{AreTextsOf, setup_texts}
use Rattle.facl_program.specs.Words.{files_named}
use Rattle.facl_program.specs.Program.{HaveTexts, Ran, Stopped}

module _ (judge : Judging) (bytes_of : List ℕ → Bytes) (words : List (List ℕ)) (setup : Setup) (files texts : List (Option (List ℕ))) (named : files_named words ≡ Some files)
    (read : AreTextsOf bytes_of files texts) (same : setup_texts setup ≡ texts) where
  have_texts : HaveTexts bytes_of words (setup_texts setup)
  have_texts = record { files = files; named = named; read = subst (AreTextsOf bytes_of files) (sym same) read }

  -- the setup has a fault, or memory ran out for it
  pub stopped : (fault : RunFault) (old new : Devices) → (fault ≢ NoMemory → initial_state setup ≡ Err fault) → IsUntouched old new → Stopped fault judge bytes_of words old new
  stopped fault old new is untouched = record { setup = setup; texts = have_texts; asked = 0; ends = ends_by_setup judge setup old new fault is untouched }

  -- the script was answered from the state on that the setup gives
  pub ran : (start : Result _ RunFault) (status : Status) (known : Option (List ℕ)) (asked : ℕ) (old new : Streams) → initial_state setup ≡ start
      → IfSome known (λ script. RunsAsking judge start script status asked old new) → IfSome known (λ script. Ran judge bytes_of words script status old new)
  ran start status None asked old new is runs = tt
  ran start status (Some script) asked old new is asks = record { setup = setup; texts = have_texts; runs = subst (λ s. RunsTo judge s script status old new) (sym is) asks.runs }
