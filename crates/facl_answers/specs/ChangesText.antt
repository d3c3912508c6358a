-- What `changes` prints: what each user is granted on each file in one state that was not granted in another one, and
-- the other way round.
use Rattle.std.specs.Prelude.{◌≡◌, ℕ, Bool, not, List, [], ◌∷◌, ◌++◌, map, filter, codes, position, Option, option_and_then, unwrap_or}
use Rattle.std.specs.List.{flat_map}
use Rattle.acl_entry.specs.Check.{has}
use Rattle.acl_entry.specs.Perms.{Perms, text}
use Rattle.path_map.specs.Merged.{put_all}
use Rattle.acl_names.specs.Names.{escaped}
use Rattle.acl_people.specs.KnownPeople.{users_of}
use Rattle.acl_people.specs.NameTables.{is_name, has_name}
use Rattle.acl_text.specs.declared.rows.PasswdRow.{PasswdRow}
use Rattle.acl_names.specs.Paths.{PathOf}
use Rattle.acl_tree.specs.State.{State}
use Rattle.acl_rights.specs.Rows.{Verdict}
use Rattle.facl_output.specs.Listings.{path_shown}
use Rattle.facl_answers.specs.Requests.{requests_granted}
use Rattle.facl_answers.specs.Answers.{line, all_files}
use Rattle.acl_rights.specs.Verdicts.{can_requests}

-- ---- a user on a file

-- the requests other than none that are granted after, and were not before, in rising number
abbrev pub requests_gained : (before after : ℕ) → List Perms
requests_gained before after = filter (λ request. not (has before request)) (requests_granted after)

abbrev pub after_comma : Perms → List ℕ
after_comma request = 44 ∷ text request

-- USER WORD REQUESTS PATH, with a comma between each two requests; nothing where there are none
abbrev pub change_line : (path user word : List ℕ) → List Perms → List ℕ
change_line path user word [] = []
change_line path user word (request ∷ requests) =
    user ++ (32 ∷ (word ++ (32 ∷ (text request ++ (flat_map after_comma requests ++ (32 ∷ line path))))))

-- what a user gains on a file, and then what the user loses there
abbrev pub change_lines : (path user : List ℕ) → (before after : ℕ) → List ℕ
change_lines path user before after =
    change_line path user (codes "gains") (requests_gained before after) ++ change_line path user (codes "loses") (requests_gained after before)

-- ---- of two states: the loaded one, and the present one

-- the rows of the users of both, who are the same by their names: those who are there now, and then those who went
abbrev pub users_of_both : (loaded now : State) → List PasswdRow
users_of_both loaded now = now.people.users ++ filter (λ row. not (has_name row.name (users_of now.people))) loaded.people.users

-- the files of a state by their paths, as they are printed
abbrev pub shown_files : State → List (PathOf × List ℕ)
shown_files s = map (λ file. (file.path, path_shown file)) (all_files s)

-- the files of both in path order; one that is in both is printed as it is now
abbrev pub files_of_both : (loaded now : State) → List (PathOf × List ℕ)
files_of_both loaded now = put_all (shown_files now) (shown_files loaded)

-- the place of the user of a name
abbrev pub place_of : State → List ℕ → Option ℕ
place_of s name = position (is_name name) (users_of s.people)

module _ (V : Verdict) (along : Bool) where
  -- what `can` answers of the user of a name and the file of a path; nothing is granted where one of them is not there
  abbrev pub granted_to : State → List ℕ → PathOf → ℕ
  granted_to s name p = unwrap_or (option_and_then (λ user. can_requests V along s user p) (place_of s name)) 0

  -- `changes`: for each file and each user of both states what differs
  abbrev pub changes_text : (loaded now : State) → List ℕ
  changes_text loaded now =
      flat_map (λ file. flat_map (λ row. change_lines file.1 (escaped row.name) (granted_to loaded row.name file.0) (granted_to now row.name file.0))
      (users_of_both loaded now)) (files_of_both loaded now)

  -- no verdict differs: each user is granted the same requests other than none on each file
  abbrev pub IsUnchanged : (loaded now : State) → Type 0
  IsUnchanged loaded now = (name : List ℕ) (p : PathOf) → requests_granted (granted_to loaded name p) ≡ requests_granted (granted_to now name p)
