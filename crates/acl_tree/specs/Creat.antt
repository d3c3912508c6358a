-- creat: a new file in a directory.
use Rattle.std.specs.Prelude.{◌≡◌, ◌≤◌, true, ℕ, List, length, slice_get, nat_lt, Bool, if◌then◌else◌, Option, Some, None, option_and_then, Result, Ok, Err}
use Rattle.std.specs.List.{list_any}
use Rattle.std.specs.FinMap.{find, put}
use Rattle.acl_names.specs.Paths.{path_cmp, PathOf}
use Rattle.acl_text.specs.declared.rows.PasswdRow.{PasswdRow}
use Rattle.acl_text.specs.Results.{◌>>=◌}
use Rattle.acl_edit.specs.Nodes.{is_directory}
use Rattle.acl_edit.specs.Creation.{inherit}
use Rattle.acl_edit.specs.declared.node.Kind.TheVariants.{Plain}
use Rattle.acl_edit.specs.declared.node.Node.{Node}
use Rattle.acl_people.specs.NameTables.{place_of_word}
use Rattle.acl_people.specs.KnownPeople.{KnownPeople, users_of}
use Rattle.acl_tree.specs.declared.command.NewFile.{NewFile}
use Rattle.acl_tree.specs.declared.fault.TreeFault.{TreeFault}
use Rattle.acl_tree.specs.declared.fault.TreeFault.TheVariants.{NoSuchFile, NotDirectory, Exists, NoSuchUser, TooMany}
use Rattle.acl_tree.specs.Files.{Files, Recorded, max_files}
use Rattle.acl_names.specs.Below.{encloses, parent}
use Rattle.acl_tree.specs.Causes.{IsMissing, IsRecordedAs, MeansNoUser}

-- the row of the user that a word means
abbrev pub row_of : KnownPeople → List ℕ → Option PasswdRow
row_of known word = option_and_then (slice_get known.users) (place_of_word word (users_of known))

-- whether a file is recorded at a path or below it
abbrev pub exists : PathOf → Files → Bool
exists p t = list_any (λ e. encloses p e.0) t

abbrev pub only_directory : PathOf → Option Node → Result Node TreeFault
only_directory p None = Err (NoSuchFile p)
only_directory p (Some n) = if is_directory n.kind then Ok n else Err (NotDirectory p)

-- the directory at a path
abbrev pub directory_at : PathOf → Files → Result Node TreeFault
directory_at p t = only_directory p (find path_cmp p t)

-- the files with one more, if there is room
abbrev pub with_file : PathOf → Node → Recorded → Result Recorded TreeFault
with_file p n t = if nat_lt (length t.files) max_files then Ok (record t { files = put path_cmp p n t.files }) else Err TooMany

-- the new file of a user in its directory: acl(5), "OBJECT CREATION AND DEFAULT ACLs"
abbrev pub creat_in : NewFile → PasswdRow → Recorded → Node → Result Recorded TreeFault
creat_in new row t directory = with_file new.path (inherit directory new.kind new.mode new.umask row.uid row.gid) t

abbrev pub creat_by : NewFile → Recorded → Option PasswdRow → Result Recorded TreeFault
creat_by new t None = Err (NoSuchUser new.user)
creat_by new t (Some row) = if exists new.path t.files then Err (Exists new.path) else (directory_at (parent new.path) t.files >>= creat_in new row t)

-- the files with the new one of a user, or the first fault
abbrev pub creat : NewFile → KnownPeople → Recorded → Result Recorded TreeFault
creat new known t = creat_by new t (row_of known new.user)

-- ---- why it is refused

-- a file is recorded at a path or below it
pub record HoldsWithin (t : Files) (p : PathOf) : Type 0 where
  pub path : PathOf
  pub node : Node
  pub recorded : find path_cmp path t ≡ Some node
  pub within : encloses p path ≡ true

-- which faults apply, whatever other ones do
abbrev pub Applies : NewFile → KnownPeople → Files → TreeFault → Type 0
Applies new known t (NoSuchUser word) = (word ≡ new.user) × MeansNoUser known new.user
Applies new known t (Exists p) = (p ≡ new.path) × HoldsWithin t new.path
Applies new known t (NoSuchFile p) = (p ≡ parent new.path) × IsMissing t (parent new.path)
Applies new known t (NotDirectory p) = (p ≡ parent new.path) × IsRecordedAs Plain t (parent new.path)
Applies new known t TooMany = max_files ≤ length t
Applies new known t fault = ⊥
