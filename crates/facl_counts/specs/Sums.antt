-- For inner functions of `below`: what is added to each user's sum, row by row.
use Rattle.std.specs.Prelude.{◌≡◌, ℕ, ◌+◌, Bool, true, false, if◌then◌else◌, List, [], ◌∷◌, ◌++◌, filter, map, slice_get, count_by, zip, option_to_list, Option}
use Rattle.std.specs.Prelude.{Some, None, option_map, option_and_then}
use Rattle.std.specs.Option.{option_map_or, option_or}
use Rattle.std.specs.List.{find, flat_map}
use Rattle.acl_edit.specs.declared.node.Kind.{Kind}
use Rattle.acl_entry.specs.Check.{has}
use Rattle.acl_entry.specs.Perms.{Perms}
use Rattle.acl_names.specs.Below.{encloses}
use Rattle.acl_names.specs.Paths.{PathOf}
use Rattle.path_classes.specs.Classes.{Classed, IsFileTaken}
use Rattle.path_classes.specs.Rows.{Rows, grants_to}
use Rattle.acl_tree.specs.Found.{FoundFile, files_found}
use Rattle.acl_tree.specs.Files.{Files}
use Rattle.acl_tree.specs.State.{State}
use Rattle.acl_rights.specs.Rows.{Verdict}
use Rattle.acl_rights.specs.Verdicts.{granted}
use Rattle.facl_answers.specs.Answers.{file_line}
use Rattle.facl_counts.specs.BelowText.{is_of_kind}
use Rattle.facl_counts.specs.CountTexts.{count_text}
use Rattle.facl_answers.specs.BothStates.{front}
use Rattle.facl_counts.specs.declared.sums.UserSum.{UserSum}
use Rattle.facl_answers.specs.BothStates.{Sides}
use Rattle.path_classes.specs.Tallies.{Tallied, one, AreTallied}

-- how many files, and the first of them, if there is one
abbrev pub Sum : Type 0
Sum = ℕ × Option PathOf

abbrev pub no_sum : {A : Type 0} → A → Sum
no_sum a = (0, None)

-- a sum as it is kept
abbrev pub sum_of : UserSum → Sum
sum_of s = (s.count, option_map (λ p. p.now) s.first)

-- `t.count` files more, which come later
abbrev pub added : Tallied Sides → Sum → Sum
added t s = (s.0 + t.count, option_or s.1 (Some t.first))

-- the sums of users, where these files are added to those of the users to whom a row grants a request
abbrev pub after_row : Perms → Tallied Sides → List ℕ → List Sum → List Sum
after_row q t row [] = []
after_row q t [] (s ∷ sums) = s ∷ sums
after_row q t (c ∷ row) (s ∷ sums) = (if has c q then added t s else s) ∷ after_row q t row sums

module _ (classes : List (List ℕ)) where
  -- the row of the class that a key has after
  abbrev pub row_of : Sides → Option (List ℕ)
  row_of key = option_and_then (slice_get classes) key.1

  abbrev pub after_tally : Perms → Tallied Sides → List Sum → List Sum
  after_tally q t sums = option_map_or (λ row. after_row q t row sums) (row_of t.key) sums

  abbrev pub after_tallies : Perms → List (Tallied Sides) → List Sum → List Sum
  after_tallies q [] sums = sums
  after_tallies q (t ∷ ts) sums = after_tallies q ts (after_tally q t sums)

-- a file with its row, and the key by which it is counted
abbrev pub Keyed : Type 0
Keyed = Sides × (PathOf × List ℕ)

abbrev pub one_of : Keyed → Tallied Sides
one_of k = one k.0 k.1.0

-- counts by classes say the same as these files, of which each has the row of its class
abbrev pub AreCounted : List (List ℕ) → Rows → List (Tallied Sides) → Type 0
AreCounted classes rows ts = AreTallied (row_of classes) rows ts

-- the files of a class, by a key of both states
abbrev pub of_class : Tallied ℕ → Tallied Sides
of_class t = record { key = (None, Some t.key); count = t.count; first = t.first }

-- the first file that was to come is taken, if it is at a path or below it
abbrev pub TakesWithin : PathOf → Classed → Option (PathOf × ℕ) → Classed → Type 0
TakesWithin top old None new = (front top old.1 ≡ []) × (new ≡ old)
TakesWithin top old (Some file) new = (encloses top file.0 ≡ true) × IsFileTaken old file new

-- after some of the files, the counts are of those: the others are left
pub record IsCounting (all left : Rows) (classes : List (List ℕ)) (ts : List (Tallied Sides)) : Type 0 where
  pub seen : Rows
  pub whole : seen ++ left ≡ all
  pub counted : AreCounted classes seen ts

-- ---- files of one kind

-- the files of a kind, with what each user is granted on them
abbrev pub rows_of_kind : Verdict → Bool → State → Option Kind → Rows
rows_of_kind V along s kind = map (λ e. (e.0, map (λ row. granted V along s row e) s.people.users)) (filter (λ e. is_of_kind kind e.1) s.tree.files)

-- the rows of files of a kind, where files and rows are in the same order
abbrev pub rows_with : Kind → Files → Rows → Rows
rows_with kind [] rows = []
rows_with kind (e ∷ es) [] = []
rows_with kind (e ∷ es) (row ∷ rows) = if is_of_kind (Some kind) e.1 then row ∷ rows_with kind es rows else rows_with kind es rows

-- the first of some files is of a kind, or not; the others are left
abbrev pub TakesKind : Kind → Files → Bool → Files → Type 0
TakesKind kind old is_of_it new =
    (row : PathOf × List ℕ) (rows : Rows) → rows_with kind old (row ∷ rows) ≡ (if is_of_it then row ∷ rows_with kind new rows else rows_with kind new rows)

-- on how many of some files a user is granted a request, and the first of them
abbrev pub sum_in : Perms → ℕ → Rows → Sum
sum_in q user rows = (count_by (grants_to q user) rows, option_map (λ r. r.0) (find (grants_to q user) rows))

-- some sums are those of users on these files
abbrev pub AreSums : {A : Type 0} → Perms → Rows → List A → List Sum → Type 0
AreSums q rows users sums = (user : ℕ) → slice_get sums user ≡ option_map (λ _. sum_in q user rows) (slice_get users user)

-- ---- lines

-- the line of a user, where there is a file
abbrev pub sum_line : Files → List ℕ → Sum → List ℕ
sum_line t name sum = option_map_or (λ p. count_text sum.0 name ++ flat_map file_line (files_found false (p ∷ []) t)) sum.1 []

-- the lines of users
abbrev pub lines_by : (List ℕ → Sum → List ℕ) → List (List ℕ) → List Sum → List ℕ
lines_by line names sums = flat_map (λ x. line x.0 x.1) (zip names sums)

abbrev pub sum_lines : Files → List (List ℕ) → List Sum → List ℕ
sum_lines t names sums = lines_by (sum_line t) names sums

-- the line of a folder and a user, where there is a file
abbrev pub folder_sum : FoundFile → List ℕ → Sum → List ℕ
folder_sum folder name sum = option_map_or (λ p. count_text sum.0 name ++ file_line folder) sum.1 []

-- those of the user at a place, if there is one
abbrev pub folder_sum_at : FoundFile → (names : List (List ℕ)) → List Sum → (user : ℕ) → List ℕ
folder_sum_at folder names sums user = flat_map (λ x. folder_sum folder x.0 x.1) (option_to_list (slice_get (zip names sums) user))

abbrev pub folder_sums : FoundFile → (user : Option ℕ) → List (List ℕ) → List Sum → List ℕ
folder_sums folder None names sums = lines_by (folder_sum folder) names sums
folder_sums folder (Some user) names sums = folder_sum_at folder names sums user
