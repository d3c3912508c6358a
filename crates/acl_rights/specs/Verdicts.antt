-- The verdicts of a state: those on its files alone, or those that count only with search along the path.
use Rattle.std.specs.Prelude.{ℕ, Bool, if◌then◌else◌, List, slice_get, Option, option_map, option_and_then}
use Rattle.std.specs.FinMap.{find}
use Rattle.acl_entry.specs.Check.{has}
use Rattle.acl_entry.specs.Perms.{Perms}
use Rattle.acl_names.specs.Paths.{path_cmp, PathOf}
use Rattle.acl_text.specs.declared.rows.PasswdRow.{PasswdRow}
use Rattle.acl_edit.specs.declared.node.Node.{Node}
use Rattle.acl_people.specs.KnownPeople.{person, persons}
use Rattle.acl_tree.specs.State.{State}
use Rattle.path_classes.specs.Rows.{Rows, places_from}
use Rattle.acl_rights.specs.Rows.{Verdict, rows_of}
use Rattle.acl_rights.specs.Reach.{reach}
use Rattle.path_classes.specs.ReachedRows.{rows_along}

-- the requests that a user is granted on a file: by the file's list alone, or only where the user can search each
-- recorded directory above it too
abbrev pub granted : Verdict → Bool → State → PasswdRow → PathOf × Node → ℕ
granted V along s row e =
    if along then reach V s.tree.files (person s.people.groups row) e
    else V (person s.people.groups row) e.1.label

module _ (V : Verdict) (along : Bool) (s : State) where
  -- the requests that a user is granted on a file, if both are there
  abbrev pub can_requests : ℕ → PathOf → Option ℕ
  can_requests user p =
      option_and_then (λ n. option_map (λ row. granted V along s row (p, n)) (slice_get s.people.users user)) (find path_cmp p s.tree.files)

  -- the places of the users who are granted a request on a file
  abbrev pub users_granted : PathOf → Perms → Option (List ℕ)
  users_granted p q = option_map (λ n. places_from (λ row. has (granted V along s row (p, n)) q) 0 s.people.users) (find path_cmp p s.tree.files)

  -- for each file the verdicts on all users
  abbrev pub rows_granted : Rows
  rows_granted = rows_along along (rows_of V (persons s.people) s.tree.files)
