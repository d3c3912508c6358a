-- The operands of a line: files and users.
use Rattle.std.specs.Prelude.{ℕ, ◌+◌, List, [], ◌∷◌, Option, ok_or, option_map, Result, Ok}
use Rattle.acl_names.specs.Names.{decoded}
use Rattle.acl_names.specs.Paths.{path_of, PathOf}
use Rattle.acl_text.specs.Blanks.{trimmed}
use Rattle.acl_text.specs.Results.{◌>>=◌}
use Rattle.acl_text.specs.declared.fault.FaultKind.TheVariants.{BadPath}
use Rattle.acl_people.specs.KnownPeople.{KnownPeople, users_of}
use Rattle.acl_people.specs.NameTables.{place_of_word}
use Rattle.acl_tree.specs.Files.{Files}
use Rattle.acl_tree.specs.Operands.{first_missing}
use Rattle.acl_tree.specs.declared.fault.TreeFault.TheVariants.{NoSuchFile, NoSuchUser}
use Rattle.facl_script.specs.Forms.{Text}
use Rattle.facl_output.specs.declared.fault.LineFault.{LineFault}
use Rattle.facl_output.specs.declared.fault.LineFault.TheVariants as faults
use Rattle.facl_output.specs.declared.fault.Source.TheVariants.{Operand}

-- the operand at this place, counted from 1, is no path
abbrev pub bad_operand : ℕ → LineFault
bad_operand at = faults.Text Operand (record { kind = BadPath; at = at })

-- the path of the operand at this place
abbrev pub path_at : ℕ → Text → Result PathOf LineFault
path_at at word = ok_or (path_of word) (bad_operand at)

-- the paths of operands, of which the first has this place; or the fault of the first that is none
abbrev pub paths_from : ℕ → List Text → Result (List PathOf) LineFault
paths_from at [] = Ok []
paths_from at (word ∷ words) = do
  path ← path_at at word
  paths ← paths_from (at + 1) words
  Ok (path ∷ paths)

-- the name that a user's word means: it is trimmed, then decoded
abbrev pub name_meant : Text → Text
name_meant word = decoded (trimmed word)

-- the place of the user of a name; digits alone are always an id
abbrev pub user_at : KnownPeople → Text → Result ℕ LineFault
user_at known name = ok_or (place_of_word name (users_of known)) (faults.Tree (NoSuchUser name))

-- the fault of the first of these paths that is not recorded
abbrev pub not_recorded : List PathOf → Files → Option LineFault
not_recorded paths files = option_map (λ path. faults.Tree (NoSuchFile path)) (first_missing paths files)
