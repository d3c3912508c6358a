-- What a prepared command reports of the state after it.
use Rattle.std.specs.Prelude.{◌≡◌, ◌≢◌, ◌==◌, ◌-◌, if◌then◌else◌, ℕ, List, [], false, Option, Some, None, IfSome, Result, Err, IfOk, refl}
use Rattle.std.specs.List.{AllByRecursion}
use Rattle.std.specs.Coded.{Coded, code_by, coded×, coded_ℕ, coded_list}
use Rattle.acl_edit.specs.contracts.node.Node as node_contracts
use Rattle.acl_people.specs.KnownPeople.{persons}
use Rattle.acl_people.specs.Moves.{MovesUser, JoinsUser, LeavesUser}
use Rattle.acl_tree.specs.declared.user_change.UserChange.{UserChange}
use Rattle.acl_tree.specs.declared.user_change.UserChange.TheVariants.{Unchanged, Loaded, Memberships, Added, Removed}
use Rattle.acl_tree.specs.contracts.user_change.UserChange as moved_contracts
use Rattle.acl_tree.specs.declared.command.Command.{Command}
use Rattle.acl_tree.specs.declared.fault.TreeFault.{TreeFault}
use Rattle.acl_tree.specs.Files.{Files}
use Rattle.acl_tree.specs.Changed.{changed_between, gone_between}
use Rattle.acl_tree.specs.Sound.{IsSoundTree}
use Rattle.path_map.specs.Below.{holds_below}
use Rattle.acl_tree.specs.State.{State, coded_state}
use Rattle.acl_tree.specs.Step.{refused_at_once, step, users_move, Stages}

-- the state after a command, the files that it changed, those that are gone, and how the users moved
pub record StagedState : Type 0 where
  pub state : State
  pub changed : Files
  pub gone : Files
  pub user_change : UserChange

abbrev pub coded_files : Coded Files
coded_files = coded_list (coded× (coded_list (coded_list coded_ℕ)) node_contracts.the_row.coded)

abbrev pub coded_staged : Coded StagedState
coded_staged =
    code_by (State × (Files × (Files × UserChange))) (coded× coded_state (coded× coded_files (coded× coded_files moved_contracts.the_row.coded)))
    (λ s. (s.state, (s.changed, (s.gone, s.user_change)))) (λ p. record { state = p.0; changed = p.1.0; gone = p.1.1.0; user_change = p.1.1.1 }) (λ _. refl)

-- what the state after a command changes of the files before it
abbrev pub staged_from : Files → State → UserChange → StagedState
staged_from old new user_change =
    record { state = new; changed = changed_between old new.tree.files; gone = gone_between old new.tree.files; user_change = user_change }

-- who joined or left groups, and these groups
abbrev pub memberships_moved : UserChange → Option (ℕ × List ℕ)
memberships_moved Unchanged = None
memberships_moved Loaded = None
memberships_moved (Memberships user groups) = Some (user, groups)
memberships_moved Added = None
memberships_moved (Removed user) = None

-- the place of the user who was added: the last one after the command
abbrev pub place_joined : UserChange → ℕ → Option ℕ
place_joined Unchanged users = None
place_joined Loaded users = None
place_joined (Memberships user groups) users = None
place_joined Added users = if users == 0 then None else Some (users - 1)
place_joined (Removed user) users = None

-- the place of the user who was removed, among those before the command
abbrev pub place_left : UserChange → Option ℕ
place_left Unchanged = None
place_left Loaded = None
place_left (Memberships user groups) = None
place_left Added = None
place_left (Removed user) = Some user

-- each user has the same id and groups; or no file is recorded; or one user moved, came or went, and the files are the
-- same
abbrev pub UsersMoved : State → State → UserChange → Type 0
UsersMoved old new Unchanged = persons new.people ≡ persons old.people
UsersMoved old new Loaded = new.tree.files ≡ []
UsersMoved old new (Memberships user groups) = (new.tree ≡ old.tree) × MovesUser (persons old.people) (persons new.people) user groups × (groups ≢ [])
UsersMoved old new Added = (new.tree ≡ old.tree) × JoinsUser (persons old.people) (persons new.people)
UsersMoved old new (Removed user) = (new.tree ≡ old.tree) × LeavesUser (persons old.people) (persons new.people) user

-- exactly what differs between the state before and the one that is staged; no file is left below one that is gone
pub record Reports (old : State) (staged : StagedState) : Type 0 where
  pub changed : staged.changed ≡ changed_between old.tree.files staged.state.tree.files
  pub gone : staged.gone ≡ gone_between old.tree.files staged.state.tree.files
  pub apart : AllByRecursion (λ e. holds_below staged.state.tree.files e.0 ≡ false) staged.gone
  pub users : UsersMoved old staged.state staged.user_change

-- ---- a prepared command

-- A call prepares the state after a command: a sound tree, with what the command changes. Or it returns the command's
-- fault, unless memory ran out.
pub record Prepares (old : State) (command : Command) (result : Result StagedState TreeFault) : Type 0 where
  pub made : Stages (λ s. s.state) result (step old command)
  pub sound : IfOk result (λ staged. IsSoundTree staged.state.tree)
  pub reports : IfOk result (λ staged. Reports old staged)
  pub moved : IfOk result (λ staged. staged.user_change ≡ users_move old command)

-- a command that is refused at once is refused for that fault, also where memory runs out
abbrev pub RefusesAtOnce : State → Command → Result StagedState TreeFault → Type 0
RefusesAtOnce old command result = IfSome (refused_at_once old command) (λ fault. result ≡ Err fault)
