-- Search along the path: what is granted where each recorded directory above grants execute.
use Rattle.std.specs.Prelude.{ℕ, ◌+◌, ◌*◌, ◌||◌, not, Bool, List, map, filter, length, slice_get, Option, option_map, option_and_then, count_by, if◌then◌else◌}
use Rattle.std.specs.List.{list_all}
use Rattle.std.specs.FinMap.{find}
use Rattle.acl_entry.specs.Perms.{Perms}
use Rattle.acl_entry.specs.Check.{has}
use Rattle.acl_entry.specs.Person.{Person}
use Rattle.acl_names.specs.Paths.{path_cmp, PathOf}
use Rattle.acl_edit.specs.declared.node.Node.{Node}
use Rattle.acl_people.specs.KnownPeople.{persons}
use Rattle.acl_names.specs.Below.{is_above}
use Rattle.acl_tree.specs.Files.{Files}
use Rattle.acl_tree.specs.State.{State}
use Rattle.acl_tree.specs.Reports.{StagedState, place_left}
use Rattle.acl_tree.specs.declared.user_change.UserChange.{UserChange}
use Rattle.acl_tree.specs.declared.user_change.UserChange.TheVariants.{Unchanged, Loaded, Memberships, Added, Removed}
use Rattle.path_classes.specs.ReachedRows.{execute, reached_rows}
use Rattle.acl_rights.specs.Differing.{differing}
use Rattle.path_map.specs.Below.{lies_in}
use Rattle.path_classes.specs.Rows.{Rows, places_from}
use Rattle.acl_rights.specs.Rows.{Verdict}
use Rattle.acl_rights.specs.Groups.{mentions_one}

-- ---- in a state

-- execute is granted on each recorded proper ancestor
abbrev pub passes : Verdict → Files → Person → PathOf → Bool
passes V fs u p = list_all (λ e. not (is_above e.0 p) || has (V u e.1.label) execute) fs

-- what a user may do with a file, if the user can search each recorded directory above; else nothing
abbrev pub reach : Verdict → Files → Person → PathOf × Node → ℕ
reach V fs u e = if passes V fs u e.0 then V u e.1.label else 0

abbrev pub reach_at : Verdict → State → ℕ → PathOf → Option ℕ
reach_at V s user p = option_and_then (λ n. option_map (λ u. reach V s.tree.files u (p, n)) (slice_get (persons s.people) user)) (find path_cmp p s.tree.files)

abbrev pub users_reaching : Verdict → State → PathOf → Perms → Option (List ℕ)
users_reaching V s p q = option_map (λ n. places_from (λ u. has (reach V s.tree.files u (p, n)) q) 0 (persons s.people)) (find path_cmp p s.tree.files)

abbrev pub files_reached : Verdict → State → ℕ → Perms → Option (List PathOf)
files_reached V s user q = option_map (λ u. map (λ e. e.0) (filter (λ e. has (reach V s.tree.files u e) q) s.tree.files)) (slice_get (persons s.people) user)

-- ---- how many verdicts along paths are new or other ones

-- the pairs of a user and a path whose verdict along the path is new or another
abbrev pub unlike : UserChange → Rows → Rows → ℕ
unlike move old new = differing (place_left move) (reached_rows old) (reached_rows new)

-- how many can change with the users' move, beside those of changed files
abbrev pub moves_refreshed : UserChange → Files → ℕ
moves_refreshed Unchanged fs = 0
moves_refreshed Loaded fs = 0
moves_refreshed (Memberships user groups) fs = count_by (λ e. lies_in (filter (mentions_one groups) fs) e.0) fs
moves_refreshed Added fs = length fs
moves_refreshed (Removed user) fs = 0

-- the most verdicts along paths that a line can change: those of all users on changed files and on what is below them,
-- and those of the users' move
abbrev pub verdicts_refreshed : StagedState → ℕ
verdicts_refreshed t = length t.state.people.users * count_by (λ e. lies_in t.changed e.0) t.state.tree.files + moves_refreshed t.user_change t.state.tree.files
