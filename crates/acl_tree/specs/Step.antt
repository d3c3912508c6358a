-- What each command means: a table of what is said of it in its own file.
use Rattle.std.specs.Prelude.{List, [], Bool, true, false, if◌then◌else◌, Option, Some, None, Result, Ok, Err}
use Rattle.std.specs.Ordering.{eq_by_cmp}
use Rattle.acl_names.specs.Paths.{path_cmp, PathOf}
use Rattle.acl_text.specs.InTurn.{GivesUnless}
use Rattle.acl_text.specs.Results.{◌>>=◌}
use Rattle.acl_tree.specs.Chmod as chmod
use Rattle.acl_tree.specs.Creat as creat
use Rattle.acl_tree.specs.EditCommand as edit
use Rattle.acl_tree.specs.Gpasswd as gpasswd
use Rattle.acl_tree.specs.Loads as load
use Rattle.acl_tree.specs.Restoring as restore
use Rattle.acl_tree.specs.Rm as rm
use Rattle.acl_tree.specs.Useradd as useradd
use Rattle.acl_tree.specs.Userdel as userdel
use Rattle.acl_tree.specs.Usermod as usermod
use Rattle.acl_tree.specs.Memberships.{ChangedUser}
use Rattle.acl_tree.specs.Operands.{is_file}
use Rattle.acl_tree.specs.State.{State, with_tree, with_change}
use Rattle.acl_tree.specs.UserMoves.{change_moves, user_left}
use Rattle.acl_tree.specs.declared.command.Command.{Command}
use Rattle.acl_tree.specs.declared.command.Command.TheVariants.{Load, Chmod, Edit, Restore, Creat, Rm, Gpasswd, Usermod, Useradd, Userdel}
use Rattle.acl_tree.specs.declared.fault.TreeFault.{TreeFault}
use Rattle.acl_tree.specs.declared.fault.TreeFault.TheVariants.{AlreadyLoaded, NotMember, UidExists, TooManyUsers, NoMemory}
use Rattle.acl_tree.specs.declared.user_change.UserChange.{UserChange}
use Rattle.acl_tree.specs.declared.user_change.UserChange.TheVariants.{Unchanged, Added}

-- ---- its step

-- the state after a command, or its first fault
abbrev pub step : State → Command → Result State TreeFault
step s (Load which bytes) = load.load s which bytes.now
step s (Chmod paths mode recursive) = chmod.chmod recursive paths mode s
step s (Edit paths e recursive) = edit.edited_tree recursive paths e s.tree >>= with_tree s
step s (Restore records) = restore.restored_tree records s.tree >>= with_tree s
step s (Creat new) = creat.creat new s.people s.tree >>= with_tree s
step s (Rm paths recursive) = rm.rm recursive paths s.tree >>= with_tree s
step s (Gpasswd user group change) = gpasswd.gpasswd user group change s.people >>= with_change s
step s (Usermod user group) = usermod.usermod user group s.people >>= with_change s
step s (Useradd new) = useradd.useradd new s.people >>= with_change s
step s (Userdel user) = userdel.userdel user s.people >>= with_change s

-- A call stages the state after a step, or returns exactly its fault, unless memory ran out.
abbrev pub Stages : {A : Type 0} → (A → State) → Result A TreeFault → Result State TreeFault → Type 0
Stages view result is = GivesUnless NoMemory view result is

-- ---- what it changes

-- how a command moves the users of a state
abbrev pub users_move : State → Command → UserChange
users_move s (Load which bytes) = load.load_moves which
users_move s (Chmod paths mode recursive) = Unchanged
users_move s (Edit paths e recursive) = Unchanged
users_move s (Restore records) = Unchanged
users_move s (Creat new) = Unchanged
users_move s (Rm paths recursive) = Unchanged
users_move s (Gpasswd user group change) = change_moves s.people (gpasswd.gpasswd user group change s.people)
users_move s (Usermod user group) = change_moves s.people (usermod.usermod user group s.people)
users_move s (Useradd new) = Added
users_move s (Userdel user) = user_left (userdel.userdel user s.people)

-- whether a command names a path: as an operand, below one with recursion, by a record, or as its new file; a load of a dump
-- names every path
abbrev pub names : Command → PathOf → Bool
names (Load which bytes) p = load.load_names which
names (Chmod paths mode recursive) p = is_file recursive paths p
names (Edit paths e recursive) p = is_file recursive paths p
names (Restore records) p = is_file false (restore.paths_of records) p
names (Creat new) p = eq_by_cmp path_cmp p new.path
names (Rm paths recursive) p = is_file recursive paths p
names (Gpasswd user group change) p = false
names (Usermod user group) p = false
names (Useradd new) p = false
names (Userdel user) p = false

-- the operands of a command that are files
abbrev pub operands : Command → List PathOf
operands (Chmod paths mode recursive) = paths
operands (Edit paths e recursive) = paths
operands (Restore records) = restore.paths_of records
operands (Rm paths recursive) = paths
operands c = []

-- ---- why it is refused

-- which faults apply, whatever other ones do
abbrev pub Applies : State → Command → TreeFault → Type 0
Applies s (Load which bytes) fault = load.Applies s which bytes.now fault
Applies s (Chmod paths mode recursive) fault = chmod.Applies paths s.tree.files fault
Applies s (Edit paths e recursive) fault = edit.Applies recursive paths e s.tree.files fault
Applies s (Restore records) fault = restore.Applies records s.tree.files fault
Applies s (Creat new) fault = creat.Applies new s.people s.tree.files fault
Applies s (Rm paths recursive) fault = rm.Applies recursive paths s.tree.files fault
Applies s (Gpasswd user group change) fault = gpasswd.Applies user group change s.people fault
Applies s (Usermod user group) fault = usermod.Applies user group s.people fault
Applies s (Useradd new) fault = useradd.Applies new s.people fault
Applies s (Userdel user) fault = userdel.Applies user s.people fault

-- whether a fault of a change of the people contains no name
abbrev pub is_nameless : TreeFault → Bool
is_nameless NotMember = true
is_nameless (UidExists id) = true
is_nameless TooManyUsers = true
is_nameless fault = false

-- the fault of such a change, if it contains no name
abbrev pub nameless : Result ChangedUser TreeFault → Option TreeFault
nameless (Ok change) = None
nameless (Err fault) = if is_nameless fault then Some fault else None

-- the fault of a command that is found before memory is taken for anything, and takes none itself
abbrev pub refused_at_once : State → Command → Option TreeFault
refused_at_once s (Load which bytes) = if load.is_loaded s which then Some AlreadyLoaded else None
refused_at_once s (Chmod paths mode recursive) = None
refused_at_once s (Edit paths e recursive) = None
refused_at_once s (Restore records) = None
refused_at_once s (Creat new) = None
refused_at_once s (Rm paths recursive) = None
refused_at_once s (Gpasswd user group change) = nameless (gpasswd.gpasswd user group change s.people)
refused_at_once s (Usermod user group) = None
refused_at_once s (Useradd new) = nameless (useradd.useradd new s.people)
refused_at_once s (Userdel user) = None
