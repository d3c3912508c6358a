-- What `below` prints: on how many of some files each user is granted a request, and on which first; or the first of
-- these files for one user; or how many they are folder by folder.
use Rattle.std.specs.Prelude.{ℕ, ◌+◌, ◌&&◌, ◌||◌, nat_le, not, Bool, true, List, [], ◌∷◌, ◌++◌, filter, length, take, decimal, slice_get, option_to_list, Option, Some, None}
use Rattle.std.specs.List.{flat_map}
use Rattle.std.specs.Option.{option_map_or}
use Rattle.acl_edit.specs.Nodes.{is_directory}
use Rattle.acl_edit.specs.declared.node.Kind.{Kind}
use Rattle.acl_edit.specs.declared.node.Kind.TheVariants.{Plain, Directory}
use Rattle.acl_edit.specs.declared.node.Node.{Node}
use Rattle.acl_entry.specs.Check.{has}
use Rattle.acl_entry.specs.Perms.{Perms}
use Rattle.acl_names.specs.Names.{escaped}
use Rattle.acl_names.specs.Paths.{PathOf}
use Rattle.acl_text.specs.declared.rows.PasswdRow.{PasswdRow}
use Rattle.acl_tree.specs.Found.{FoundFile, files_found}
use Rattle.acl_tree.specs.State.{State}
use Rattle.acl_rights.specs.Rows.{Verdict}
use Rattle.acl_rights.specs.Verdicts.{granted}
use Rattle.facl_answers.specs.Answers.{file_line}

-- whether a file is of the kind that counts; all files are where no kind is given
abbrev pub is_of_kind : Option Kind → Node → Bool
is_of_kind None n = true
is_of_kind (Some Plain) n = not (is_directory n.kind)
is_of_kind (Some Directory) n = is_directory n.kind

-- COUNT USER PATH: how many files, and the first of them; nothing where there are none
abbrev pub below_line : List ℕ → List FoundFile → List ℕ
below_line user [] = []
below_line user (file ∷ files) = decimal (1 + length files) ++ (32 ∷ (user ++ (32 ∷ file_line file)))

-- COUNT USER FOLDER: how many files; nothing where there are none
abbrev pub folder_line : FoundFile → List ℕ → List FoundFile → List ℕ
folder_line folder user [] = []
folder_line folder user (file ∷ files) = decimal (1 + length files) ++ (32 ∷ (user ++ (32 ∷ file_line folder)))

-- whether a file at a path or below it is a folder: the file of the path itself, and each directory at most `depth` levels below it
abbrev pub is_folder : (depth : ℕ) → PathOf → FoundFile → Bool
is_folder depth p file = nat_le (length file.path) (length p + depth) && (is_directory file.node.kind || nat_le (length file.path) (length p))

-- the users in question: all, or the one at a place
abbrev pub users_asked : Option ℕ → List PasswdRow → List PasswdRow
users_asked None users = users
users_asked (Some user) users = option_to_list (slice_get users user)

module _ (V : Verdict) (along : Bool) (s : State) where
  -- the files of a kind at or below these paths, each once, in path order, on which a user is granted a request
  abbrev pub granted_below : Perms → Option Kind → List PathOf → PasswdRow → List FoundFile
  granted_below q kind paths row =
      filter (λ file. is_of_kind kind file.node && has (granted V along s row (file.path, file.node)) q) (files_found true paths s.tree.files)

  -- `below`: a line for each user, in the order of the rows
  abbrev pub below_text : Perms → Option Kind → List PathOf → List ℕ
  below_text q kind paths = flat_map (λ row. below_line (escaped row.name) (granted_below q kind paths row)) s.people.users

  -- `below --list`: the first files of the user at a place
  abbrev pub listed_text : Perms → Option Kind → List PathOf → (user most : ℕ) → List ℕ
  listed_text q kind paths user most =
      option_map_or (λ row. flat_map file_line (take most (granted_below q kind paths row))) (slice_get s.people.users user) []

  -- the folders at or below a path, in path order
  abbrev pub folders_of : (depth : ℕ) → PathOf → List FoundFile
  folders_of depth p = filter (is_folder depth p) (files_found true (p ∷ []) s.tree.files)

  -- the lines of a folder: a line for each user, in the order of the rows, of the files at it or below it
  abbrev pub folder_lines : Perms → Option Kind → (user : Option ℕ) → FoundFile → List ℕ
  folder_lines q kind user folder =
      flat_map (λ row. folder_line folder (escaped row.name) (granted_below q kind (folder.path ∷ []) row)) (users_asked user s.people.users)

  -- `below --depth`: the folders of each path, path by path
  abbrev pub folders_text : Perms → Option Kind → (user : Option ℕ) → (depth : ℕ) → List PathOf → List ℕ
  folders_text q kind user depth paths = flat_map (λ p. flat_map (folder_lines q kind user) (folders_of depth p)) paths
