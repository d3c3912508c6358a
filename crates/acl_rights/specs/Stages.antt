-- A line on a table.
use Rattle.std.specs.Prelude.{ℕ, ◌+◌, ◌*◌, Bool, true, false, length, count_by}
use Rattle.acl_tree.specs.Files.{Files}
use Rattle.acl_tree.specs.State.{State}
use Rattle.acl_tree.specs.Reports.{StagedState, Reports}
use Rattle.acl_tree.specs.declared.user_change.UserChange.{UserChange}
use Rattle.acl_tree.specs.declared.user_change.UserChange.TheVariants.{Unchanged, Loaded, Memberships, Added, Removed}
use Rattle.acl_rights.specs.Groups.{mentions_one, sum_mentioning}
use Rattle.acl_rights.specs.Rows.{Verdict}
use Rattle.acl_rights.specs.Tables.{VerdictTable, IsWhole}

-- the index is the whole table of some state, from which the line goes
pub record CanStage (V : Verdict) (index : VerdictTable) (t : StagedState) : Type 0 where
  pub state : State
  pub whole : IsWhole V state index
  pub reports : Reports state t

-- the most verdicts that the users' move costs; a line that moves users changes no file
abbrev pub moves_asked : UserChange → Files → ℕ
moves_asked Unchanged fs = 0
moves_asked Loaded fs = 0
moves_asked (Memberships user groups) fs = count_by (mentions_one groups) fs
moves_asked Added fs = length fs
moves_asked (Removed user) fs = 0

-- the most verdicts that a line costs
abbrev pub most_asked : StagedState → ℕ
most_asked t = length t.changed * length t.state.people.users + moves_asked t.user_change t.state.tree.files

-- the most labels that are fetched as users move: for each of the groups as many as files mention it
abbrev pub most_looked : UserChange → Files → ℕ
most_looked Unchanged fs = 0
most_looked Loaded fs = 0
most_looked (Memberships user groups) fs = sum_mentioning groups fs
most_looked Added fs = 0
most_looked (Removed user) fs = 0

-- whether one user has other groups
abbrev pub moves_groups : UserChange → Bool
moves_groups Unchanged = false
moves_groups Loaded = false
moves_groups (Memberships user groups) = true
moves_groups Added = false
moves_groups (Removed user) = false
