-- For inner functions, and those that facl_counts calls: no contract of a question names these definitions.
use Rattle.std.specs.Prelude.{◌≡◌, ℕ, ◌==◌, ◌<◌, Bool, true, false, not, if◌then◌else◌, List, [], ◌∷◌, ◌++◌, get_or, length, map, zip, position, slice_get}
use Rattle.std.specs.Prelude.{Option, Some, None, option_and_then, unwrap_or}
use Rattle.std.specs.List.{flat_map, list_all}
use Rattle.std.specs.Option.{option_map_or}
use Rattle.acl_entry.specs.Check.{is_for}
use Rattle.acl_entry.specs.Keys.{same_key}
use Rattle.acl_entry.specs.Lists.{IsValid}
use Rattle.acl_entry.specs.Perms.{Perms}
use Rattle.acl_entry.specs.Person.{Person}
use Rattle.acl_entry.specs.declared.entry.Entry.{Entry}
use Rattle.acl_entry.specs.declared.entry.Key.{Key}
use Rattle.acl_names.specs.Paths.{PathOf}
use Rattle.acl_edit.specs.declared.node.Node.{Node}
use Rattle.acl_tree.specs.Walks.{ancestors}
use Rattle.acl_tree.specs.Files.{Files}
use Rattle.acl_names.specs.Names.{escaped}
use Rattle.acl_people.specs.KnownPeople.{KnownPeople, users_of}
use Rattle.acl_people.specs.NameTables.{is_name}
use Rattle.acl_tree.specs.Found.{FoundFile, found_file}
use Rattle.acl_tree.specs.Inner.{next_file_below}
use Rattle.acl_tree.specs.State.{State}
use Rattle.path_classes.specs.Classes.{Classed, KeepRows}
use Rattle.path_classes.specs.Rows.{Rows, grants}
use Rattle.acl_rights.specs.Rows.{Verdict}
use Rattle.acl_rights.specs.Verdicts.{granted}
use Rattle.facl_output.specs.Listings.{path_shown}
use Rattle.facl_answers.specs.Answers.{all_files, file_line, user_line, verdict_line}
use Rattle.facl_answers.specs.BothStates.{RowsOfFile}
use Rattle.facl_answers.specs.ChangesText.{change_lines}
use Rattle.facl_answers.specs.declared.placed_users.PlacedUser.{PlacedUser}
use Rattle.facl_answers.specs.declared.placed_users.PlacedUsers.{PlacedUsers}
use Rattle.facl_answers.specs.declared.file_walk.FileInClass.{FileInClass}
use Rattle.facl_answers.specs.declared.file_walk.Walk.{Walk}

-- ---- what `why` looks at

-- whether an entry is that of the key, where there is one, or for one of the user's groups
abbrev pub is_chosen : Person → ℕ → Option Key → Entry → Bool
is_chosen u owning sole e = option_map_or (λ k. same_key k e.key) sole (is_for u owning e)

-- each path, after those of the recorded directories above it
abbrev pub ways : List PathOf → Files → List PathOf
ways paths t = flat_map (λ p. ancestors p t ++ p ∷ []) paths

-- the paths whose files are printed
abbrev pub asked_paths : Bool → List PathOf → Files → List PathOf
asked_paths along paths t = if along then ways paths t else paths

-- a file's access list is a valid one
abbrev pub HasValidList : PathOf × Node → Type 0
HasValidList e = IsValid e.1.label.acl

-- ---- lines

-- the line of the user at a place
abbrev pub line_at : KnownPeople → ℕ → List ℕ
line_at known user = option_map_or user_line (slice_get known.users user) []

-- the lines of a file, by the verdicts on the users of these names
abbrev pub row_lines : List ℕ → List (List ℕ) → List ℕ → List ℕ
row_lines path names cells = flat_map (λ x. verdict_line x.1 x.0 path) (zip names cells)

-- ---- changes

-- a user's name as it is printed, and the places of the user's rows before and after
abbrev pub Placed : Type 0
Placed = List ℕ × (Option ℕ × Option ℕ)

abbrev pub placed_of : PlacedUser → Placed
placed_of user = (user.name.items, (user.before, user.after))

-- the user of a name, in two states
abbrev pub placed_in : (loaded now : KnownPeople) → List ℕ → Placed
placed_in loaded now name = (escaped name, (position (is_name name) (users_of loaded), position (is_name name) (users_of now)))

abbrev pub same_place : Option ℕ → Option ℕ → Bool
same_place None None = true
same_place None (Some after) = false
same_place (Some before) None = false
same_place (Some before) (Some after) = before == after

abbrev pub keeps_place : PlacedUser → Bool
keeps_place user = same_place user.before user.after

-- each user has the same place in both states, or none in both, if `keep_places` is set
abbrev pub KnowPlaces : PlacedUsers → Type 0
KnowPlaces users = users.keep_places ≡ true → list_all keeps_place users.list.now ≡ true

-- a user's verdict in a row; none where the user is not there
abbrev pub verdict_or_none : List ℕ → Option ℕ → ℕ
verdict_or_none row place = unwrap_or (option_and_then (slice_get row) place) 0

-- whether what a user is granted differs
abbrev pub differs : (before after : List ℕ) → PlacedUser → Bool
differs before after user = not (verdict_or_none before user.before == verdict_or_none after user.after)

-- the lines of a file, by its rows before and after
abbrev pub lines_between : List PlacedUser → (path before after : List ℕ) → List ℕ
lines_between users path before after = flat_map (λ user. change_lines path user.name.items (verdict_or_none before user.before) (verdict_or_none after user.after)) users

-- the lines of a file of two states, and those of some files, by how paths are printed; nobody is granted anything where a file is not there
abbrev pub lines_of_file : List PlacedUser → (text_of : PathOf → List ℕ) → PathOf × RowsOfFile → List ℕ
lines_of_file users text_of file = lines_between users (text_of file.0) (unwrap_or file.1.0 []) (unwrap_or file.1.1 [])

abbrev pub lines_of_files : List PlacedUser → (text_of : PathOf → List ℕ) → List (PathOf × RowsOfFile) → List ℕ
lines_of_files users text_of files = flat_map (lines_of_file users text_of) files

-- ---- a walk over files with their classes

-- a file with its row
abbrev pub RowedFile : Type 0
RowedFile = FoundFile × List ℕ

-- the files of a state, each with what each user is granted on it
abbrev pub files_granted : Verdict → Bool → State → List RowedFile
files_granted V along s = map (λ file. (file, map (λ row. granted V along s row (file.path, file.node)) s.people.users)) (all_files s)

-- files with their rows, where both are in the same order
abbrev pub rowed_files : Files → Rows → List RowedFile
rowed_files es [] = []
rowed_files [] (row ∷ rows) = []
rowed_files (e ∷ es) (row ∷ rows) = (found_file (next_file_below e.0 es) e, row.1) ∷ rowed_files es rows

-- the files that are still to come; the rows of the classes so far, and those of these files
abbrev pub Walked : Type 0
Walked = Files × Classed

abbrev pub walked : Walk → Walked
walked walk = (walk.files, walk.classes)

-- the files that are still to come, with their rows
abbrev pub files_left : Walked → List RowedFile
files_left w = rowed_files w.0 w.1.1

-- a file before those that are still to come, with the row of its class
abbrev pub rowed_file : Walked → FileInClass → RowedFile
rowed_file rest file = (found_file (next_file_below file.path.now rest.0) (file.path.now, file.node.now), unwrap_or (slice_get rest.1.0 file.class) [])

-- the first file that was to come, with a class that has its row
pub record IsStep (old : Walked) (file : FileInClass) (new : Walked) : Type 0 where
  pub first : files_left old ≡ rowed_file new file ∷ files_left new
  pub row : List ℕ
  pub has : slice_get new.1.0 file.class ≡ Some row
  pub keep : KeepRows old.1.0 new.1.0
  pub fewer : length (files_left new) < length (files_left old)

-- the next file with its class, if one was to come
abbrev pub TakesStep : Walked → Option FileInClass → Walked → Type 0
TakesStep old None new = files_left old ≡ []
TakesStep old (Some file) new = IsStep old file new

-- the lines of a file, by the verdicts on the users of these names
abbrev pub row_text : List (List ℕ) → RowedFile → List ℕ
row_text names file = row_lines (path_shown file.0) names file.1

-- the line of a file, if its row grants a user a request
abbrev pub granted_text : Perms → ℕ → RowedFile → List ℕ
granted_text q user file = if grants q user file.1 then file_line file.0 else []

-- whether the files of a class grant a user a request
abbrev pub IsGranted : Perms → ℕ → (rows : List (List ℕ)) (class : ℕ) → Bool → Type 0
IsGranted q user rows class granted = (row : List ℕ) × ((slice_get rows class ≡ Some row) × (granted ≡ grants q user row))

-- the same of the first classes
abbrev pub AreGranted : Perms → ℕ → (rows : List (List ℕ)) → List Bool → Type 0
AreGranted q user rows table = (class : ℕ) → class < length table → IsGranted q user rows class (get_or table class false)
