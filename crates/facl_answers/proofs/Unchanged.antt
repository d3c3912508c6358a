-- Nothing is printed exactly where no verdict differs.
use Rattle.std.proofs.Common.{◌≡◌, ◌≢◌, ℕ, suc, ◌+◌, ◌<◌, arith, Bool, true, false, not, cond, List, [], ◌∷◌, ◌++◌, length, map, filter, Option, Some, None}
use Rattle.std.proofs.Common.{Ordering, Less, Equal, Greater, refl, sym, ap, subst, ◌∙◌}
use Rattle.std.specs.Prelude.{option_map, option_and_then, position, slice_get, unwrap_or, codes, is_some, nat_lt, ◌||◌}
use Rattle.std.specs.List.{flat_map, position_or_len, list_any}
use Rattle.std.specs.Option.{option_or}
use Rattle.std.specs.Ordering.{is_eq}
use Rattle.std.specs.FinMap.{find}
use Rattle.std.specs.Str.{bytes_eq}
use Rattle.std.proofs.lemmas.Bool.{ltb-true}
use Rattle.std.proofs.lemmas.Grind.{flat_map-append}
use Rattle.std.proofs.lemmas.Slice.Eq.{bytes_eq-Decides}
use Rattle.acl_entry.specs.Check.{has}
use Rattle.acl_entry.specs.Perms.{Perms, numbered, text}
use Rattle.acl_edit.specs.declared.node.Node.{Node}
use Rattle.acl_names.specs.Paths.{PathOf, path_cmp}
use Rattle.path_map.specs.Entries.{IsInOrder}
use Rattle.acl_names.specs.Names.{escaped}
use Rattle.acl_people.specs.Entries.{user_entry}
use Rattle.acl_people.specs.KnownPeople.{users_of}
use Rattle.acl_people.specs.NameTables.{Named, is_name, has_name}
use Rattle.acl_text.specs.declared.rows.PasswdRow.{PasswdRow}
use Rattle.acl_tree.specs.Files.{Files}
use Rattle.acl_tree.specs.Found.{found_file, found_in}
use Rattle.path_map.specs.Below.{holds_below}
use Rattle.acl_tree.specs.State.{State}
use Rattle.acl_rights.specs.Rows.{Verdict}
use Rattle.acl_names.proofs.PathOrder.{exact_paths}
use Rattle.path_map.proofs.Rows.{find_put_all}
use Rattle.facl_output.specs.Listings.{path_shown}
use Rattle.facl_answers.specs.Requests.{requests_granted}
use Rattle.facl_answers.specs.Answers.{line}
use Rattle.acl_rights.specs.Verdicts.{granted, can_requests}
use Rattle.facl_answers.specs.ChangesText.{requests_gained, after_comma, change_line, change_lines, users_of_both, shown_files, files_of_both, place_of, granted_to, changes_text, IsUnchanged}
use Rattle.facl_answers.proofs.ChangeLines.{shown, shown_order}

-- ---- lists

no_left : {A : Type 0} (xs ys : List A) → xs ++ ys ≡ [] → xs ≡ []
no_left [] ys h = refl
no_left (x ∷ xs) ys h = absurd (cc h)

no_right : {A : Type 0} (xs ys : List A) → xs ++ ys ≡ [] → ys ≡ []
no_right [] ys h = h
no_right (x ∷ xs) ys h = absurd (cc h)

no_lines : {A C : Type 0} (g : A → List C) (xs : List A) → ((x : A) → g x ≡ []) → flat_map g xs ≡ []
no_lines g [] h = refl
no_lines g (x ∷ xs) h = λ i. h x i ++ no_lines g xs h i

-- ---- requests

module _ (f g : Perms → Bool) where
  -- those that pass a test do not fail it
  none_fails : (qs : List Perms) → filter (λ q. not (f q)) (filter f qs) ≡ []
  none_fails [] = refl
  none_fails (q ∷ qs) = by (f q) refl (none_fails qs)
    where
      by : (b : Bool) → f q ≡ b → filter (λ q. not (f q)) (filter f qs) ≡ [] → filter (λ q. not (f q)) (cond b (q ∷ filter f qs) (filter f qs)) ≡ []
      by true is more = ap (λ b. cond (not b) (q ∷ filter (λ q. not (f q)) (filter f qs)) (filter (λ q. not (f q)) (filter f qs))) is ∙ more
      by false is more = more

  -- where all that pass one test pass another one, and the other way round, the same pass both
  same_pass : (qs : List Perms) → filter (λ q. not (f q)) (filter g qs) ≡ [] → filter (λ q. not (g q)) (filter f qs) ≡ [] → filter f qs ≡ filter g qs
  same_pass [] a b = refl
  same_pass (q ∷ qs) a b = by (f q) (g q) refl refl (same_pass qs) a b
    where
      by : (s t : Bool) → f q ≡ s → g q ≡ t
          → (filter (λ q. not (f q)) (filter g qs) ≡ [] → filter (λ q. not (g q)) (filter f qs) ≡ [] → filter f qs ≡ filter g qs)
          → filter (λ q. not (f q)) (cond t (q ∷ filter g qs) (filter g qs)) ≡ [] → filter (λ q. not (g q)) (cond s (q ∷ filter f qs) (filter f qs)) ≡ []
          → cond s (q ∷ filter f qs) (filter f qs) ≡ cond t (q ∷ filter g qs) (filter g qs)
      by true true is was more a b =
          ap (λ l. q ∷ l)
          (more (sym (ap (λ b. cond (not b) (q ∷ filter (λ q. not (f q)) (filter g qs)) (filter (λ q. not (f q)) (filter g qs))) is) ∙ a)
          (sym (ap (λ b. cond (not b) (q ∷ filter (λ q. not (g q)) (filter f qs)) (filter (λ q. not (g q)) (filter f qs))) was) ∙ b))
      by true false is was more a b = absurd (cc (sym (ap (λ b. cond (not b) (q ∷ filter (λ q. not (g q)) (filter f qs)) (filter (λ q. not (g q)) (filter f qs))) was) ∙ b))
      by false true is was more a b = absurd (cc (sym (ap (λ b. cond (not b) (q ∷ filter (λ q. not (f q)) (filter g qs)) (filter (λ q. not (f q)) (filter g qs))) is) ∙ a))
      by false false is was more a b = more a b

abbrev requests : List Perms
requests = map numbered (1 ∷ 2 ∷ 3 ∷ 4 ∷ 5 ∷ 6 ∷ 7 ∷ [])

none_gained : (before after : ℕ) → requests_granted before ≡ requests_granted after → requests_gained before after ≡ []
none_gained before after same = ap (filter (λ q. not (has before q))) (sym same) ∙ none_fails (has before) (has after) requests

same_granted : (before after : ℕ) → requests_gained before after ≡ [] → requests_gained after before ≡ [] → requests_granted before ≡ requests_granted after
same_granted before after gained lost = same_pass (has before) (has after) requests gained lost

-- ---- lines

-- a text with a byte in it is not empty
not_empty : (user : List ℕ) (c : ℕ) (more : List ℕ) → user ++ (c ∷ more) ≢ []
not_empty [] c more h = cc h
not_empty (b ∷ user) c more h = cc h

no_requests : (path user word : List ℕ) (qs : List Perms) → change_line path user word qs ≡ [] → qs ≡ []
no_requests path user word [] h = refl
no_requests path user word (q ∷ qs) h = absurd (not_empty user 32 (word ++ (32 ∷ (text q ++ (flat_map after_comma qs ++ (32 ∷ line path))))) h)

pub lines_none : (path user : List ℕ) (before after : ℕ) → requests_granted before ≡ requests_granted after → change_lines path user before after ≡ []
lines_none path user before after same =
    λ i. change_line path user (codes "gains") (none_gained before after same i) ++ change_line path user (codes "loses") (none_gained after before (sym same) i)

none_lines : (path user : List ℕ) (before after : ℕ) → change_lines path user before after ≡ [] → requests_granted before ≡ requests_granted after
none_lines path user before after h =
    same_granted before after
    (no_requests path user (codes "gains") (requests_gained before after)
    (no_left (change_line path user (codes "gains") (requests_gained before after)) (change_line path user (codes "loses") (requests_gained after before)) h))
    (no_requests path user (codes "loses") (requests_gained after before)
    (no_right (change_line path user (codes "gains") (requests_gained before after)) (change_line path user (codes "loses") (requests_gained after before)) h))

-- where a verdict is as before there is no line
pub no_change : (path user : List ℕ) (before after : ℕ) → before ≡ after → change_lines path user before after ≡ []
no_change path user before after same = lines_none path user before after (ap requests_granted same)

-- ---- users by name

-- nobody has a name: there is no place
past_all : {A : Type 0} (test : A → Bool) (xs : List A) → list_any test xs ≡ false → position_or_len test xs ≡ length xs
past_all test [] h = refl
past_all test (x ∷ xs) h = by (test x) h (past_all test xs)
  where
    one : 1 + length xs ≡ suc (length xs)
    one = omega arith

    by : (b : Bool) → (b || list_any test xs) ≡ false → (list_any test xs ≡ false → position_or_len test xs ≡ length xs) → cond (not b) (1 + position_or_len test xs) 0 ≡ suc (length xs)
    by true h more = absurd (cc h)
    by false h more = ap (λ n. 1 + n) (more h) ∙ one

-- what is printed of a user of this name, where nothing is printed of all
module _ (g : PasswdRow → List ℕ) (name : List ℕ) where
  abbrev IsOf : Type 0
  IsOf = (row : PasswdRow) × ((name ≡ row.name) × (g row ≡ []))

  of_name : (rows : List PasswdRow) → list_any (λ row. bytes_eq name row.name) rows ≡ true → flat_map g rows ≡ [] → IsOf
  of_name [] h none = absurd (cc h)
  of_name (row ∷ rows) h none = by (bytes_eq name row.name) refl h (of_name rows)
    where
      by : (b : Bool) → bytes_eq name row.name ≡ b → (b || list_any (λ row. bytes_eq name row.name) rows) ≡ true
          → (list_any (λ row. bytes_eq name row.name) rows ≡ true → flat_map g rows ≡ [] → IsOf) → IsOf
      by true is h more = (row, ((bytes_eq-Decides name row.name).0 is, no_left (g row) (flat_map g rows) none))
      by false is h more = more h (no_right (g row) (flat_map g rows) none)

-- what is printed of the file of a path, where nothing is printed of all
of_path : (g : PathOf × List ℕ → List ℕ) (p : PathOf) (es : List (PathOf × List ℕ)) (a : List ℕ) → find path_cmp p es ≡ Some a → flat_map g es ≡ [] → (b : List ℕ) × (g (p, b) ≡ [])
of_path g p [] a h none = absurd (cc h)
of_path g p (e ∷ es) a h none = by (path_cmp p e.0) refl (of_path g p es a)
  where
    by : (o : Ordering) → path_cmp p e.0 ≡ o → (find path_cmp p es ≡ Some a → flat_map g es ≡ [] → (b : List ℕ) × (g (p, b) ≡ [])) → (b : List ℕ) × (g (p, b) ≡ [])
    by Less is more = more (sym (ap (λ o. cond (is_eq o) (Some e.1) (find path_cmp p es)) is) ∙ h) (no_right (g e) (flat_map g es) none)
    by Equal is more = (e.1, ap (λ q. g (q, e.1)) (exact_paths p e.0 is) ∙ no_left (g e) (flat_map g es) none)
    by Greater is more = more (sym (ap (λ o. cond (is_eq o) (Some e.1) (find path_cmp p es)) is) ∙ h) (no_right (g e) (flat_map g es) none)

not_itself : (n : ℕ) → nat_lt n n ≡ false
not_itself n = by (nat_lt n n) refl
  where
    by : (b : Bool) → nat_lt n n ≡ b → nat_lt n n ≡ false
    by true is = let lt : n < n = ltb-true n n is in absurd (omega (arith, lt))
    by false is = is

module _ (name : List ℕ) where
  abbrev called : PasswdRow → Bool
  called row = bytes_eq name row.name

  any_entry : (rows : List PasswdRow) → list_any (is_name name) (map user_entry rows) ≡ list_any called rows
  any_entry [] = refl
  any_entry (row ∷ rows) = ap (λ b. called row || b) (any_entry rows)

  -- nobody has the name
  nobody : (rows : List PasswdRow) → list_any called rows ≡ false → position (is_name name) (map user_entry rows) ≡ None
  nobody rows h =
      let entries = map user_entry rows in
      let past : position_or_len (is_name name) entries ≡ length entries = past_all (is_name name) entries (any_entry rows ∙ h) in
      ap (λ n. cond (nat_lt n (length entries)) (Some n) None) past ∙ ap (λ b. cond b (Some (length entries)) None) (not_itself (length entries))

  -- somebody who went has it
  any_gone : (known : List Named) (rows : List PasswdRow) → list_any called rows ≡ true → has_name name known ≡ false → list_any called (filter (λ row. not (has_name row.name known)) rows) ≡ true
  any_gone known [] h gone = absurd (cc h)
  any_gone known (row ∷ rows) h gone = by (called row) refl (λ rest. any_gone known rows rest gone) h
    where
      left : List PasswdRow
      left = filter (λ row. not (has_name row.name known)) rows

      or_true : (b : Bool) → (b || true) ≡ true
      or_true true = refl
      or_true false = refl

      kept : (b : Bool) → list_any called left ≡ true → list_any called (cond b (row ∷ left) left) ≡ true
      kept true rest = ap (λ b. called row || b) rest ∙ or_true (called row)
      kept false rest = rest

      by : (b : Bool) → called row ≡ b → (list_any called rows ≡ true → list_any called left ≡ true) → (b || list_any called rows) ≡ true
          → list_any called (cond (not (has_name row.name known)) (row ∷ left) left) ≡ true
      by true is more h =
          let same : name ≡ row.name = (bytes_eq-Decides name row.name).0 is in
          ap (λ b. list_any called (cond (not b) (row ∷ left) left)) (ap (λ q. has_name q known) (sym same) ∙ gone) ∙ ap (λ b. b || list_any called left) is
      by false is more h = kept (not (has_name row.name known)) (more h)

-- ---- files by path

shown_there : (p : PathOf) (t es : Files) (n : Node) → find path_cmp p es ≡ Some n → (path : List ℕ) × (find path_cmp p (map shown (found_in t es)) ≡ Some path)
shown_there p t [] n h = absurd (cc h)
shown_there p t (e ∷ es) n h = by (is_eq (path_cmp p e.0)) (shown_there p t es n) h
  where
    by : (b : Bool) → (find path_cmp p es ≡ Some n → (path : List ℕ) × (find path_cmp p (map shown (found_in t es)) ≡ Some path)) → cond b (Some e.1) (find path_cmp p es) ≡ Some n
        → (path : List ℕ) × (cond b (Some (path_shown (found_file (holds_below t e.0) e))) (find path_cmp p (map shown (found_in t es))) ≡ Some path)
    by true more h = (path_shown (found_file (holds_below t e.0) e), refl)
    by false more h = more h

or_there : {A : Type 0} (o : Option A) (a : A) → (b : A) × (option_or o (Some a) ≡ Some b)
or_there None a = (a, refl)
or_there (Some b) a = (b, refl)

module _ (V : Verdict) (along : Bool) where
  -- nothing is granted where the user or the file is not there
  nothing_there : (s : State) (name : List ℕ) (p : PathOf) → find path_cmp p s.tree.files ≡ None → granted_to V along s name p ≡ 0
  nothing_there s name p none = by (place_of s name)
    where
      by : (place : Option ℕ) → unwrap_or (option_and_then (λ user. can_requests V along s user p) place) 0 ≡ 0
      by None = refl
      by (Some user) = ap (λ o. unwrap_or (option_and_then (λ n. option_map (λ row. granted V along s row (p, n)) (slice_get s.people.users user)) o) 0) none

  nothing_for : (s : State) (name : List ℕ) (p : PathOf) → list_any (called name) s.people.users ≡ false → granted_to V along s name p ≡ 0
  nothing_for s name p none = ap (λ place. unwrap_or (option_and_then (λ user. can_requests V along s user p) place) 0) (nobody name s.people.users none)

  module _ (loaded now : State) where
    abbrev lines_of : (p : PathOf) (path : List ℕ) → PasswdRow → List ℕ
    lines_of p path row = change_lines path (escaped row.name) (granted_to V along loaded row.name p) (granted_to V along now row.name p)

    abbrev IsSame : List ℕ → PathOf → Type 0
    IsSame name p = requests_granted (granted_to V along loaded name p) ≡ requests_granted (granted_to V along now name p)

    -- a file of which nothing is printed
    same_on_file : (name : List ℕ) (p : PathOf) (path : List ℕ) → flat_map (lines_of p path) (users_of_both loaded now) ≡ [] → IsSame name p
    same_on_file name p path none = by (list_any (called name) now.people.users) (list_any (called name) loaded.people.users) refl refl
      where
        gone : List PasswdRow
        gone = filter (λ row. not (has_name row.name (users_of now.people))) loaded.people.users

        parts : flat_map (lines_of p path) now.people.users ++ flat_map (lines_of p path) gone ≡ []
        parts = sym (flat_map-append (lines_of p path) now.people.users gone) ∙ none

        of_row : (rows : List PasswdRow) → list_any (called name) rows ≡ true → flat_map (lines_of p path) rows ≡ [] → IsSame name p
        of_row rows h nothing =
            let found = of_name (lines_of p path) name rows h nothing in
            let row = found.0 in
            subst (λ q. IsSame q p) (sym found.1.0) (none_lines path (escaped row.name) (granted_to V along loaded row.name p) (granted_to V along now row.name p) found.1.1)

        by : (there was : Bool) → list_any (called name) now.people.users ≡ there → list_any (called name) loaded.people.users ≡ was → IsSame name p
        by true was is _ = of_row now.people.users is (no_left (flat_map (lines_of p path) now.people.users) (flat_map (lines_of p path) gone) parts)
        by false true is had =
            of_row gone (any_gone name (users_of now.people) loaded.people.users had (ap is_some (nobody name now.people.users is)))
            (no_right (flat_map (lines_of p path) now.people.users) (flat_map (lines_of p path) gone) parts)
        by false false is had = λ i. requests_granted ((nothing_for loaded name p had ∙ sym (nothing_for now name p is)) i)

    -- nothing is printed: no verdict differs
    pub none_differs : IsInOrder now.tree.files → changes_text V along loaded now ≡ [] → IsUnchanged V along loaded now
    none_differs order none name p = by (find path_cmp p now.tree.files) (find path_cmp p loaded.tree.files) refl refl
      where
        both : find path_cmp p (files_of_both loaded now) ≡ option_or (find path_cmp p (shown_files now)) (find path_cmp p (shown_files loaded))
        both = find_put_all p (shown_files now) (shown_files loaded) (shown_order now.tree.files order)

        on_file : (path : List ℕ) → find path_cmp p (files_of_both loaded now) ≡ Some path → IsSame name p
        on_file path is =
            let found = of_path (λ (file : PathOf × List ℕ). flat_map (lines_of file.0 file.1) (users_of_both loaded now)) p (files_of_both loaded now) path is none in
            same_on_file name p found.0 found.1

        by : (o was : Option Node) → find path_cmp p now.tree.files ≡ o → find path_cmp p loaded.tree.files ≡ was → IsSame name p
        by (Some n) was is _ =
            let path = shown_there p now.tree.files now.tree.files n is in
            on_file path.0 (both ∙ ap (λ o. option_or o (find path_cmp p (shown_files loaded))) path.1)
        by None (Some n) is had =
            let path = shown_there p loaded.tree.files loaded.tree.files n had in
            let there = or_there (find path_cmp p (shown_files now)) path.0 in
            on_file there.0 (both ∙ ap (option_or (find path_cmp p (shown_files now))) path.1 ∙ there.1)
        by None None is had = λ i. requests_granted ((nothing_there loaded name p had ∙ sym (nothing_there now name p is)) i)

    -- no verdict differs: nothing is printed
    pub nothing_printed : IsUnchanged V along loaded now → changes_text V along loaded now ≡ []
    nothing_printed same =
        no_lines (λ (file : PathOf × List ℕ). flat_map (lines_of file.0 file.1) (users_of_both loaded now)) (files_of_both loaded now)
        (λ file. no_lines (lines_of file.0 file.1) (users_of_both loaded now)
        (λ row. lines_none file.1 (escaped row.name) (granted_to V along loaded row.name file.0) (granted_to V along now row.name file.0) (same row.name file.0)))
