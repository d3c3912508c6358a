-- What the program does, from its words to its last byte.
use Rattle.std.specs.Prelude.{◌≡◌, ℕ, List, Option, None, Some, ⊤}
use Rattle.facl.specs.acl_rights.Deciders.{Judging}
use Rattle.facl.specs.facl_output.declared.fault.RunFault.{RunFault}
use Rattle.facl_script.specs.Streams.{Streams}
use Rattle.facl.specs.Headline.{RunsTo}
use Rattle.facl.specs.Runs.{Devices, EndsBy, IsUntouched}
use Rattle.facl.specs.Setups.{initial_state}
use Rattle.facl.specs.declared.setup.Setup.{Setup}
use Rattle.facl.specs.declared.status.Status.{Status}
use Rattle.facl_program.specs.Files.{AreTextsOf, IsFirstUnread, setup_texts}
use Rattle.facl_program.specs.FileStores.{Bytes}
use Rattle.facl_program.specs.Words.{files_named}
use Rattle.facl_program.specs.declared.fault.ProgramFault.{ProgramFault}
use Rattle.facl_program.specs.declared.fault.ProgramFault.TheVariants.{Usage, CannotRead, Run, NoMemory}

-- the words name files, and these are their texts
pub record HaveTexts (bytes_of : List ℕ → Bytes) (words : List (List ℕ)) (texts : List (Option (List ℕ))) : Type 0 where
  pub files : List (Option (List ℕ))
  pub named : files_named words ≡ Some files
  pub read : AreTextsOf bytes_of files texts

-- the words name files, and the fault is that of the first that has no text
pub record HaveNoText (bytes_of : List ℕ → Bytes) (words : List (List ℕ)) (fault : ProgramFault) : Type 0 where
  pub files : List (Option (List ℕ))
  pub named : files_named words ≡ Some files
  pub first : IsFirstUnread bytes_of fault files

-- why there are no texts: the words name no files, or one has no text, or memory ran out
abbrev pub IsUnloaded : (List ℕ → Bytes) → List (List ℕ) → ProgramFault → Type 0
IsUnloaded bytes_of words Usage = files_named words ≡ None
IsUnloaded bytes_of words (CannotRead file) = HaveNoText bytes_of words (CannotRead file)
IsUnloaded bytes_of words (Run fault) = ⊥
IsUnloaded bytes_of words NoMemory = ⊤

-- The texts of the files that the words name were loaded, and then the script was answered to its end.
pub record Ran (judge : Judging) (bytes_of : List ℕ → Bytes) (words : List (List ℕ)) (script : List ℕ) (status : Status) (old new : Streams) : Type 0 where
  pub setup : Setup
  pub texts : HaveTexts bytes_of words (setup_texts setup)
  pub runs : RunsTo judge (initial_state setup) script status old new

-- The texts of the files that the words name were there, and then the run ended by a fault.
pub record Stopped (fault : RunFault) (judge : Judging) (bytes_of : List ℕ → Bytes) (words : List (List ℕ)) (old new : Devices) : Type 0 where
  pub setup : Setup
  pub texts : HaveTexts bytes_of words (setup_texts setup)
  pub asked : ℕ
  pub ends : EndsBy fault judge (initial_state setup) asked old new

-- how the program ends by a fault: before the run nothing is read of the script and nothing written
abbrev pub FailsBy : ProgramFault → Judging → (List ℕ → Bytes) → List (List ℕ) → (old new : Devices) → Type 0
FailsBy (Run fault) judge bytes_of words old new = Stopped fault judge bytes_of words old new
FailsBy fault judge bytes_of words old new = IsUnloaded bytes_of words fault × IsUntouched old new
