-- Which of the faults that apply to a command is reported.
use Rattle.std.specs.Prelude.{◌≡◌, ◌≤◌, ◌↔◌, ℕ, suc, List, [], ◌∷◌, map, if◌then◌else◌, Err, IsErr}
use Rattle.std.specs.Ordering.{eq_by_cmp}
use Rattle.acl_names.specs.Paths.{path_cmp, PathOf}
use Rattle.path_map.specs.Entries.{IsInOrder}
use Rattle.acl_tree.specs.declared.fault.TreeFault.{TreeFault}
use Rattle.acl_tree.specs.declared.fault.TreeFault.TheVariants as faults
use Rattle.acl_tree.specs.declared.command.Command.{Command}
use Rattle.acl_tree.specs.State.{State}
use Rattle.acl_tree.specs.Step.{Applies, operands, step}

-- the kinds of faults in the order in which they are reported: the same order in every command, and the faults of
-- operands, which share a rank, by their places
abbrev pub rank : TreeFault → ℕ
rank faults.AlreadyLoaded = 0
rank (faults.Text fault) = 1
rank (faults.NoSuchUser word) = 2
rank (faults.UserExists name) = 3
rank (faults.UidExists id) = 4
rank (faults.NoSuchGroup word) = 5
rank faults.NotMember = 6
rank faults.TooManyUsers = 7
rank (faults.Exists p) = 8
rank (faults.NoSuchFile p) = 9
rank (faults.IsDirectory p) = 9
rank (faults.NotDirectory p) = 10
rank (faults.Edit p fault) = 11
rank faults.TooMany = 12
rank faults.NoMemory = 13

-- how many of these come before a path
abbrev pub place : PathOf → List PathOf → ℕ
place p [] = 0
place p (q ∷ paths) = if eq_by_cmp path_cmp p q then 0 else suc (place p paths)

-- where the file of a fault is: of an edit among the recorded files, which are in path order, else among the operands
abbrev pub place_of : State → Command → TreeFault → ℕ
place_of s c (faults.NoSuchFile p) = place p (operands c)
place_of s c (faults.IsDirectory p) = place p (operands c)
place_of s c (faults.Edit p fault) = place p (map (λ e. e.0) s.tree.files)
place_of s c f = 0

-- a fault is not reported after another one
pub record IsNotAfter (s : State) (c : Command) (f g : TreeFault) : Type 0 where
  pub by_rank : rank f ≤ rank g
  pub by_place : rank g ≡ rank f → place_of s c f ≤ place_of s c g

-- the fault is the first of those that apply
pub record IsFirst (s : State) (c : Command) (f : TreeFault) : Type 0 where
  pub applies : Applies s c f
  pub first : (g : TreeFault) → Applies s c g → IsNotAfter s c f g

-- the command is refused exactly if a fault applies, and the first of those is reported
pub record IsRefusedForFirst (s : State) (c : Command) : Type 0 where
  pub reported : (f : TreeFault) → (step s c ≡ Err f) ↔ IsFirst s c f
  pub refused : (f : TreeFault) → Applies s c f → IsErr (step s c)

-- so it is with every command, where the files are in path order
abbrev pub CommandsAreRefusedForFirst : Type 0
CommandsAreRefusedForFirst = (s : State) (command : Command) → IsInOrder s.tree.files → IsRefusedForFirst s command
