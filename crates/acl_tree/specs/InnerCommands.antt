-- For inner functions: no public contract names these definitions.
use Rattle.std.specs.Prelude.{◌≡◌, ◌≢◌, ◌<◌, length, Option, Some, None, false, Result, MatchResult}
use Rattle.std.specs.FinMap.{find}
use Rattle.acl_names.specs.Paths.{path_cmp, PathOf}
use Rattle.acl_text.specs.InTurn.{GivesUnless}
use Rattle.acl_edit.specs.Nodes as nodes
use Rattle.acl_edit.specs.declared.node.Node.{Node}
use Rattle.acl_edit.specs.declared.node.Kind.TheVariants.{Directory}
use Rattle.acl_tree.specs.Files.{Files, Recorded, max_files}
use Rattle.acl_tree.specs.Sound.{IsSoundTree}
use Rattle.acl_tree.specs.declared.fault.TreeFault.{TreeFault}
use Rattle.acl_tree.specs.declared.fault.TreeFault.TheVariants.{NoMemory}
use Rattle.acl_names.specs.Below.{parent}
use Rattle.acl_people.specs.KnownPeople.{KnownPeople}
use Rattle.acl_tree.specs.Creat.{exists}
use Rattle.acl_tree.specs.State.{State, state_from}
use Rattle.acl_tree.specs.Reports.{StagedState, UsersMoved, Reports, staged_from}
use Rattle.acl_tree.specs.declared.user_change.UserChange.{UserChange}
use Rattle.acl_tree.specs.declared.state.BorrowedState.{BorrowedState}

-- ---- a state

-- the state that is borrowed
abbrev pub whole : BorrowedState → State
whole s = state_from s.tree.now s.people.now

-- ---- what is found

-- A call gives the value, seen by view, or exactly its fault, unless memory ran out.
abbrev pub Gives : {A B : Type 0} → (A → B) → Result A TreeFault → Result B TreeFault → Type 0
Gives view result is = GivesUnless NoMemory view result is

-- A call succeeds if there is no such fault; else it returns the fault, unless memory ran out.
abbrev pub IsRefusedFor : {A : Type 0} → Result A TreeFault → Option TreeFault → Type 0
IsRefusedFor result refused = MatchResult result (λ _. refused ≡ None) (λ fault. fault ≢ NoMemory → refused ≡ Some fault)

-- ---- what is staged

-- what is staged is a sound tree, with what differs from the state before, and how the users moved
pub record IsStaged (old : State) (user_change : UserChange) (staged : StagedState) : Type 0 where
  pub sound : IsSoundTree staged.state.tree
  pub reports : Reports old staged
  pub moved : staged.user_change ≡ user_change

-- the same files with other people: it reports what that changes of a state with these files whose users moved so
pub record StagesPeople (tree : Recorded) (people : KnownPeople) (user_change : UserChange) (staged : StagedState) : Type 0 where
  pub all : staged ≡ staged_from tree.files (state_from tree people) user_change
  pub sound : IsSoundTree staged.state.tree
  pub reports : (old : KnownPeople) → UsersMoved (state_from tree old) (state_from tree people) user_change → Reports (state_from tree old) staged

-- ---- a new file

-- a file that may be put among others: none is at its path or below it, its parent is a directory, and there is room
pub record IsNewIn (t : Files) (e : PathOf × Node) : Type 0 where
  pub absent : exists e.0 t ≡ false
  pub directory : Node
  pub recorded : find path_cmp (parent e.0) t ≡ Some directory
  pub is_directory : directory.kind ≡ Directory
  pub room : length t < max_files
  pub default : nodes.IsSound e.1
