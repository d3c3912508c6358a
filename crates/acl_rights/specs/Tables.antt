-- The whole table of verdicts of a state.
use Rattle.std.specs.Prelude.{◌≡◌, ℕ, List, length, map, filter, slice_get, Option, Some, None, option_map, option_and_then, nat_lt, if◌then◌else◌, Result, IfOk, refl}
use Rattle.std.specs.Borrow.{Bor}
use Rattle.std.specs.Coded.{Coded, code_by, coded×, coded_ℕ}
use Rattle.std.specs.FinMap.{find}
use Rattle.std.specs.declared.alloc.Global.{Global}
use Rattle.std.specs.declared.vec.Vec.{Vec}
use Rattle.acl_entry.specs.Check.{has}
use Rattle.acl_entry.specs.Perms.{Perms}
use Rattle.acl_names.specs.Paths.{path_cmp, PathOf}
use Rattle.acl_names.specs.declared.path.Path.{Path}
use Rattle.acl_people.specs.KnownPeople.{persons}
use Rattle.acl_tree.specs.Files.{Files}
use Rattle.acl_tree.specs.State.{State}
use Rattle.acl_tree.specs.Reports.{coded_files}
use Rattle.path_classes.specs.Rows.{Rows, coded_rows, places_from, who_in, may_in}
use Rattle.acl_rights.specs.Rows.{Verdict, cells_of, rows_of}

-- how many users there are, the files, and a row for each
pub record VerdictTable : Type 0 where
  pub users : ℕ
  pub files : Files
  pub rows : Rows

abbrev pub coded_table : Coded VerdictTable
coded_table =
    code_by (ℕ × (Files × Rows)) (coded× coded_ℕ (coded× coded_files coded_rows)) (λ t. (t.users, (t.files, t.rows))) (λ p. record { users = p.0; files = p.1.0; rows = p.1.1 }) (λ _. refl)

-- the whole table of a state: every user against every file, judged afresh
pub record IsWhole (V : Verdict) (s : State) (t : VerdictTable) : Type 0 where
  pub users : t.users ≡ length s.people.users
  pub files : t.files ≡ s.tree.files
  pub rows : t.rows ≡ rows_of V (persons s.people) s.tree.files

-- a staged table, how many labels were fetched for it, and how many verdicts along paths may be new or
-- other ones
pub record StagedTable : Type 0 where
  pub table : VerdictTable
  pub looked : ℕ
  pub refreshed : ℕ

abbrev pub coded_staged : Coded StagedTable
coded_staged = code_by (VerdictTable × (ℕ × ℕ)) (coded× coded_table (coded× coded_ℕ coded_ℕ)) (λ s. (s.table, (s.looked, s.refreshed)))
    (λ p. record { table = p.0; looked = p.1.0; refreshed = p.1.1 }) (λ _. refl)

-- ---- questions to a table

abbrev pub cell_at : VerdictTable → ℕ → PathOf → Option ℕ
cell_at t user p = option_and_then (λ cells. slice_get cells user) (find path_cmp p t.rows)

-- the users to whom rows grant a request on a file, if it is there
abbrev pub users_at : Rows → PathOf → Perms → Option (List ℕ)
users_at rows p q = option_map (who_in q) (find path_cmp p rows)

-- the files on which rows of `users` users grant a request to a user, if the user is there
abbrev pub files_at : (users : ℕ) → Rows → ℕ → Perms → Option (List PathOf)
files_at users rows user q = if nat_lt user users then Some (may_in q user rows) else None

-- the places of users, or the paths of files, that a call returns unless memory runs out
abbrev pub FindsUsers : {E : Type 0} → Result (Option (Vec ℕ Global)) E → Option (List ℕ) → Type 0
FindsUsers r places = IfOk r (λ found. option_map (λ users. users.items) found ≡ places)

abbrev pub FindsFiles : {E : Type 0} → Result (Option (Vec (Bor Path) Global)) E → Option (List PathOf) → Type 0
FindsFiles r paths = IfOk r (λ found. option_map (λ files. map (λ p. p.now) files.items) found ≡ paths)

-- ---- questions to a state

abbrev pub verdict_at : Verdict → State → ℕ → PathOf → Option ℕ
verdict_at V s user p = option_and_then (λ n. option_map (λ u. V u n.label) (slice_get (persons s.people) user)) (find path_cmp p s.tree.files)

-- the verdicts on all users on a file
abbrev pub row_at : Verdict → State → PathOf → Option (List ℕ)
row_at V s p = option_map (cells_of V (persons s.people)) (find path_cmp p s.tree.files)

-- the users to whom a request is granted on a file
abbrev pub users_granted_alone : Verdict → State → PathOf → Perms → Option (List ℕ)
users_granted_alone V s p q = option_map (λ n. places_from (λ u. has (V u n.label) q) 0 (persons s.people)) (find path_cmp p s.tree.files)

-- the files on which a request is granted to a user
abbrev pub files_granted_alone : Verdict → State → ℕ → Perms → Option (List PathOf)
files_granted_alone V s user q = option_map (λ u. map (λ e. e.0) (filter (λ e. has (V u e.1.label) q) s.tree.files)) (slice_get (persons s.people) user)
