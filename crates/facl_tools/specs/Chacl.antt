-- chacl(1).
use Rattle.std.specs.Prelude.{ℕ, ◌+◌, List, [], ◌∷◌, Bool, true, false, if◌then◌else◌, nat_le, codes, refl, Option, Some, None, option_map, Result, Ok}
use Rattle.acl_edit.specs.declared.edit.Edit.TheVariants.{Put, Flatten}
use Rattle.acl_text.specs.declared.fault.Which.TheVariants.{Access, Default}
use Rattle.acl_text.specs.Results.{◌>>=◌, unless}
use Rattle.acl_people.specs.KnownPeople.{KnownPeople, naming_of}
use Rattle.acl_tree.specs.Found.{FoundFile, files_found}
use Rattle.acl_tree.specs.State.{State}
use Rattle.facl_script.specs.Forms.{Text, files_of}
use Rattle.facl_script.specs.Syntax.{Syntax, by_letter, some}
use Rattle.facl_script.specs.declared.tool_words.Words.{Words}
use Rattle.facl_output.specs.declared.fault.LineFault.{LineFault}
use Rattle.facl_output.specs.declared.fault.Source.TheVariants.{Entry, DefaultEntry}
use Rattle.facl_output.specs.ChaclListings.{chacl_listing}
use Rattle.facl_tools.specs.Asked.{has, operands_from}
use Rattle.facl_tools.specs.Replies.{Reply, printed}
use Rattle.facl_tools.specs.Operands.{paths_from, not_recorded}
use Rattle.facl_tools.specs.Edits.{edited}
use Rattle.facl_tools.specs.Lists.{list_of_text}
use Rattle.facl_tools.specs.declared.chacl.ChaclLine.{ChaclLine}
use Rattle.facl_tools.specs.declared.chacl.Task.{Task}
use Rattle.facl_tools.specs.declared.chacl.Task.TheVariants as tasks

abbrev pub syntax : Syntax
syntax = record {
  flags = by_letter (codes "b")
      ∷ by_letter (codes "d")
      ∷ by_letter (codes "R")
      ∷ by_letter (codes "D")
      ∷ by_letter (codes "B")
      ∷ by_letter (codes "l")
      ∷ by_letter (codes "r") ∷ [];
  options = [];
  operands = some (codes "word") ∷ [];
}

abbrev pub one_if : Bool → ℕ
one_if b = if b then 1 else 0

-- how many of the flags are given that select what is done
abbrev pub tasks_given : Words → ℕ
tasks_given w = one_if (has syntax w (codes "b") refl) + one_if (has syntax w (codes "d") refl)
    + one_if (has syntax w (codes "R") refl) + one_if (has syntax w (codes "D") refl)
    + one_if (has syntax w (codes "B") refl) + one_if (has syntax w (codes "l") refl)

-- a task on these files
abbrev pub on_files : Task → List Text → Option (Task × List Text)
on_files task words = option_map (λ files. (task, files)) (files_of words)

-- an access list is put into the files that come after it
abbrev pub read_access : List Text → Option (Task × List Text)
read_access [] = None
read_access (access ∷ files) = on_files (tasks.PutAccess access) files

-- a default list
abbrev pub read_default : List Text → Option (Task × List Text)
read_default [] = None
read_default (default_text ∷ files) = on_files (tasks.PutDefault default_text) files

-- both
abbrev pub read_both : List Text → Option (Task × List Text)
read_both [] = None
read_both (access ∷ []) = None
read_both (access ∷ default_text ∷ files) = on_files (tasks.PutBoth access default_text) files

-- the task of the flag that selects what is done
abbrev pub task_of : Words → List Text → Option (Task × List Text)
task_of w operands =
    if has syntax w (codes "b") refl then read_both operands
    else if has syntax w (codes "d") refl then read_default operands
    else if has syntax w (codes "R") refl then on_files tasks.RemoveAccess operands
    else if has syntax w (codes "D") refl then on_files tasks.RemoveDefault operands
    else if has syntax w (codes "B") refl then on_files tasks.RemoveBoth operands
    else if has syntax w (codes "l") refl then on_files tasks.List operands
    else read_access operands

-- the line that words give, unless they are usage: at most one thing is done, and a file is given after the lists
abbrev pub read : Words → Option ChaclLine
read w =
    if nat_le (tasks_given w) 1
    then option_map (λ found. record { task = found.0; recursive = has syntax w (codes "r") refl; files = found.1 }) (task_of w (operands_from syntax w (codes "word") refl))
    else None

-- an access list is put into files
abbrev pub put_access : State → Bool → Text → List Text → Result Reply LineFault
put_access s recursive text files = list_of_text s.people Entry Access text >>= λ access. edited s recursive (Put (Some access) None) files

-- a default list
abbrev pub put_default : State → Bool → Text → List Text → Result Reply LineFault
put_default s recursive text files = list_of_text s.people DefaultEntry Default text >>= λ dacl. edited s recursive (Put None (Some dacl)) files

-- an access list and a default list, read in this order
abbrev pub put_both : State → Bool → Text → Text → List Text → Result Reply LineFault
put_both s recursive text default_text files = do
  access ← list_of_text s.people Entry Access text
  dacl ← list_of_text s.people DefaultEntry Default default_text
  edited s recursive (Put (Some access) (Some dacl)) files

-- ids print as the names that these people have
abbrev pub chacl_text : KnownPeople → List FoundFile → List ℕ
chacl_text known files = chacl_listing (naming_of known) files

-- the lists of files are printed
abbrev pub list_files : State → Bool → List Text → Result Reply LineFault
list_files s recursive files = do
  paths ← paths_from 1 files
  unless (not_recorded paths s.tree.files) (Ok (printed s (chacl_text s.people (files_found recursive paths s.tree.files))))

-- a task is done with files
abbrev pub task_done : State → Bool → Task → List Text → Result Reply LineFault
task_done s recursive (tasks.PutAccess text) files = put_access s recursive text files
task_done s recursive (tasks.PutDefault text) files = put_default s recursive text files
task_done s recursive (tasks.PutBoth text default_text) files = put_both s recursive text default_text files
task_done s recursive tasks.RemoveAccess files = edited s recursive (Flatten true false) files
task_done s recursive tasks.RemoveDefault files = edited s recursive (Flatten false true) files
task_done s recursive tasks.RemoveBoth files = edited s recursive (Flatten true true) files
task_done s recursive tasks.List files = list_files s recursive files

abbrev pub answered : State → ChaclLine → Result Reply LineFault
answered s line = task_done s line.recursive line.task line.files
