-- What `who`, `may` and `index` print: all users against all files. The line of `can` is in Requests.
use Rattle.std.specs.Prelude.{ℕ, ◌/◌, ◌%◌, Bool, false, List, [], ◌∷◌, ◌++◌, filter, slice_get, slice_index, codes, Option, option_map}
use Rattle.std.specs.List.{flat_map}
use Rattle.std.specs.FinMap.{find}
use Rattle.acl_entry.specs.Check.{has}
use Rattle.acl_entry.specs.Perms.{Perms}
use Rattle.acl_names.specs.Names.{escaped}
use Rattle.acl_names.specs.Paths.{path_cmp, PathOf}
use Rattle.acl_text.specs.declared.rows.PasswdRow.{PasswdRow}
use Rattle.acl_tree.specs.Found.{FoundFile, found_in}
use Rattle.acl_tree.specs.State.{State}
use Rattle.acl_rights.specs.Rows.{Verdict}
use Rattle.acl_rights.specs.Verdicts.{granted}
use Rattle.facl_output.specs.Listings.{path_shown}

abbrev pub line : List ℕ → List ℕ
line text = text ++ 10 ∷ []

-- a user by name, as it is written in a text
abbrev pub user_line : PasswdRow → List ℕ
user_line row = line (escaped row.name)

abbrev pub file_line : FoundFile → List ℕ
file_line file = line (path_shown file)

-- a number below 16 as a hex digit
abbrev pub hex_digit : ℕ → ℕ
hex_digit n = slice_index (codes "0123456789abcdef") n

-- a byte as two hex digits
abbrev pub hex_digits : ℕ → List ℕ
hex_digits byte = hex_digit (byte / 16) ∷ hex_digit (byte % 16) ∷ []

-- HH USER PATH
abbrev pub verdict_line : ℕ → List ℕ → List ℕ → List ℕ
verdict_line byte user path = hex_digits byte ++ (32 ∷ (user ++ (32 ∷ line path)))

-- the recorded files in path order
abbrev pub all_files : State → List FoundFile
all_files s = found_in s.tree.files s.tree.files

module _ (V : Verdict) (along : Bool) (s : State) where
  -- `who`: each user who is granted a request on a file, in the order of the rows
  abbrev pub who_text : Perms → PathOf → Option (List ℕ)
  who_text q p =
      option_map (λ n. flat_map user_line (filter (λ row. has (granted V along s row (p, n)) q) s.people.users)) (find path_cmp p s.tree.files)

  -- `may`: each file on which a user is granted a request, in path order
  abbrev pub may_text : Perms → ℕ → Option (List ℕ)
  may_text q user =
      option_map (λ row. flat_map file_line (filter (λ file. has (granted V along s row (file.path, file.node)) q) (all_files s))) (slice_get s.people.users user)

-- `index`: for each file in path order and each user in the order of the rows the requests that are granted
abbrev pub index_text : Verdict → State → List ℕ
index_text V s =
    flat_map (λ file. flat_map (λ row. verdict_line (granted V false s row (file.path, file.node)) (escaped row.name) (path_shown file)) s.people.users) (all_files s)
