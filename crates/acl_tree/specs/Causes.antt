-- What a fault of a command is about.
use Rattle.std.specs.Prelude.{◌≡◌, ℕ, List, Bool, true, false, Some, None, Result, Err}
use Rattle.std.specs.FinMap.{find}
use Rattle.acl_names.specs.Paths.{path_cmp, PathOf}
use Rattle.acl_edit.specs.declared.edit.EditFault.{EditFault}
use Rattle.acl_edit.specs.declared.node.Kind.{Kind}
use Rattle.acl_edit.specs.declared.node.Node.{Node}
use Rattle.acl_people.specs.KnownPeople.{KnownPeople, users_of, groups_of}
use Rattle.acl_people.specs.NameTables.{place_of_word}
use Rattle.acl_tree.specs.Files.{Files}
use Rattle.acl_tree.specs.Operands.{is_file}

-- a word means no user
abbrev pub MeansNoUser : KnownPeople → List ℕ → Type 0
MeansNoUser known word = place_of_word word (users_of known) ≡ None

-- a word means no group
abbrev pub MeansNoGroup : KnownPeople → List ℕ → Type 0
MeansNoGroup known word = place_of_word word (groups_of known) ≡ None

-- no file is recorded at a path
abbrev pub IsMissing : Files → PathOf → Type 0
IsMissing t p = find path_cmp p t ≡ None

-- a file of this kind is recorded at a path
pub record IsRecordedAs (kind : Kind) (t : Files) (p : PathOf) : Type 0 where
  pub node : Node
  pub recorded : find path_cmp p t ≡ Some node
  pub is : node.kind ≡ kind

-- a path is one of these
abbrev pub IsAmong : List PathOf → PathOf → Type 0
IsAmong paths p = is_file false paths p ≡ true

-- the edit of a file of the command is refused with this
pub record IsEditRefused (edit : PathOf → Node → Result Node EditFault) (recursive : Bool) (paths : List PathOf) (t : Files) (p : PathOf) (fault : EditFault) : Type 0 where
  pub is_file : is_file recursive paths p ≡ true
  pub node : Node
  pub recorded : find path_cmp p t ≡ Some node
  pub refused : edit p node ≡ Err fault
