-- For inner functions: the rows of a state from which a line goes, and those after the line.
use Rattle.std.specs.Prelude.{◌≡◌, ◌≤◌, ℕ, List, map}
use Rattle.acl_entry.specs.declared.label.Label.{Label}
use Rattle.kinds.specs.Numbered.{entries_in}
use Rattle.acl_people.specs.KnownPeople.{persons}
use Rattle.acl_names.specs.Paths.{PathOf}
use Rattle.acl_tree.specs.Files.{Files}
use Rattle.acl_tree.specs.Reports.{StagedState}
use Rattle.path_classes.specs.KindRows.{RowedPaths, rows_at}
use Rattle.acl_rights.specs.KindRows.{rowed}
use Rattle.acl_rights.specs.declared.kind_rows.KindRows.{KindRows}
use Rattle.acl_rights.specs.Rows.{Verdict}
use Rattle.acl_rights.specs.Tables.{VerdictTable}
use Rattle.acl_rights.specs.Stages.{most_looked}
use Rattle.acl_rights.specs.Reach.{unlike, verdicts_refreshed}
use Rattle.acl_rights.specs.Kept.{GoesFrom}
use Rattle.acl_rights.specs.declared.stage.NextRows.{NextRows}

-- the labels of files
abbrev pub labels_of : Files → List (PathOf × Label)
labels_of fs = map (λ e. (e.0, e.1.label)) fs

-- each file's row is kept with the file's label
abbrev pub HaveLabels : Files → RowedPaths → Type 0
HaveLabels fs es = map (λ e. (e.0, e.1.label)) es ≡ labels_of fs

-- the table of `users` users and of files with their rows
abbrev pub table_of : ℕ → Files → KindRows → VerdictTable
table_of users fs rows = record { users = users; files = fs; rows = rows_at (entries_in rows.rows) }

-- the rows are those of some state, from which the line goes
pub record AreBefore (V : Verdict) (es : RowedPaths) (t : StagedState) : Type 0 where
  pub goes : GoesFrom V (rows_at es) t
  pub are : es ≡ rowed V (persons goes.state.people) goes.state.tree.files

-- from these rows, those of the state after the line; with no more labels fetched than it may, and how many verdicts along
-- paths may be new or other ones: at least those that are, and at most those that the line can change
pub record IsAfter (V : Verdict) (old : RowedPaths) (t : StagedState) (new : NextRows) : Type 0 where
  pub rows : entries_in new.rows.rows ≡ rowed V (persons t.state.people) t.state.tree.files
  pub looked : new.looked ≤ most_looked t.user_change t.state.tree.files
  pub least : unlike t.user_change (rows_at old) (rows_at (entries_in new.rows.rows)) ≤ new.refreshed
  pub most : new.refreshed ≤ verdicts_refreshed t
