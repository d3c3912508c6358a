-- The lines of the counts of all users are those of the changes between two states.
use Rattle.std.proofs.Common.{◌≡◌, ℕ, suc, ◌+◌, arith, Bool, true, false, not, cond, List, [], ◌∷◌, ◌++◌, append_assoc, map, filter, length, take, drop, Option, Some, None}
use Rattle.std.proofs.Common.{refl, sym, ap, subst, ◌∙◌}
use Rattle.std.specs.Prelude.{◌&&◌, option_map, option_and_then, decimal}
use Rattle.std.specs.List.{flat_map}
use Rattle.std.specs.List as lists
use Rattle.std.specs.FinMap.{find}
use Rattle.std.proofs.Math.Seq.{take-append_seam}
use Rattle.acl_names.specs.Names.{escaped}
use Rattle.acl_names.specs.Paths.{PathOf, path_cmp}
use Rattle.acl_people.specs.KnownPeople.{KnownPeople, users_of}
use Rattle.acl_people.specs.NameTables.{has_name}
use Rattle.acl_text.specs.declared.rows.PasswdRow.{PasswdRow}
use Rattle.acl_tree.specs.State.{State}
use Rattle.path_classes.specs.Rows.{Rows}
use Rattle.acl_rights.specs.Rows.{Verdict}
use Rattle.acl_rights.specs.Verdicts.{can_requests, rows_granted}
use Rattle.path_map.specs.Entries.{IsInOrder}
use Rattle.path_map.specs.Merged.{put_all}
use Rattle.facl_answers.specs.Answers.{line}
use Rattle.facl_answers.specs.ChangesText.{users_of_both, files_of_both, place_of}
use Rattle.facl_counts.specs.GainsText.{is_change, is_same, side_of, side_text, number_of_sides, lines_up_to, lines_by_sides, gain_line, granted_in, sides_of, is_kept, has_change, files_with}
use Rattle.facl_counts.specs.GainsText.{gain_lines, gains_text}
use Rattle.facl_answers.specs.Inner.{Placed, placed_of, placed_in}
use Rattle.facl_answers.specs.BothStates.{RowsOfFile, Sides, rows_in_both}
use Rattle.facl_counts.specs.InnerGains.{AllOfBoth, Gained, HasChanges, HaveChanges}
use Rattle.facl_counts.specs.InnerGains.{verdict_given, cells_of_both, change_of, changes_of, count_line, counted_line, gained_of, keyed, lines_of_user}
use Rattle.facl_counts.specs.InnerGains.{tally_line}
use Rattle.facl_answers.specs.PathTexts.{text_in}
use Rattle.path_classes.specs.Tallies.{Tallied, SaysAs, one, count_where, first_where}
use Rattle.facl_answers.specs.declared.placed_users.PlacedUser.{PlacedUser}
use Rattle.facl_counts.specs.declared.user_gains.UserGains.{UserGains}
use Rattle.facl_answers.proofs.ChangeLines.{paths, same_paths, some_by_paths, table_of, whole_table, rows_paths, cell_along, texts_are}
use Rattle.facl_counts.proofs.GainLines.{lines_same, same_line}

-- ---- a line by the files that have a change

nested : (a b n user path : List ℕ) → ((a ++ 32 ∷ []) ++ (b ++ 32 ∷ [])) ++ (((n ++ 32 ∷ []) ++ (user ++ 32 ∷ [])) ++ path) ≡ a ++ (32 ∷ (b ++ (32 ∷ (n ++ (32 ∷ (user ++ (32 ∷ path)))))))
nested a b n user path =
    ap (λ l. ((a ++ 32 ∷ []) ++ (b ++ 32 ∷ [])) ++ l) (append_assoc (n ++ 32 ∷ []) (user ++ 32 ∷ []) path)
    ∙ append_assoc (a ++ 32 ∷ []) (b ++ 32 ∷ []) ((n ++ 32 ∷ []) ++ ((user ++ 32 ∷ []) ++ path))
    ∙ append_assoc a (32 ∷ []) ((b ++ 32 ∷ []) ++ ((n ++ 32 ∷ []) ++ ((user ++ 32 ∷ []) ++ path)))
    ∙ ap (λ l. a ++ (32 ∷ l))
    (append_assoc b (32 ∷ []) ((n ++ 32 ∷ []) ++ ((user ++ 32 ∷ []) ++ path))
    ∙ ap (λ l. b ++ (32 ∷ l)) (append_assoc n (32 ∷ []) ((user ++ 32 ∷ []) ++ path) ∙ ap (λ l. n ++ (32 ∷ l)) (append_assoc user (32 ∷ []) path)))

-- the first file's path
abbrev first_path : List (PathOf × List ℕ) → Option PathOf
first_path [] = None
first_path (file ∷ files) = Some file.0

line_of_files : (text_of : PathOf → List ℕ) (user : List ℕ) (sides : Sides) (files : List (PathOf × List ℕ))
    → ((file : PathOf × List ℕ) (more : List (PathOf × List ℕ)) → files ≡ file ∷ more → text_of file.0 ≡ file.1)
    → counted_line text_of user sides (length files) (first_path files) ≡ gain_line user sides files
line_of_files text_of user sides [] shown = refl
line_of_files text_of user sides (file ∷ files) shown =
    let many : suc (length files) ≡ 1 + length files = omega arith in
    (λ i. count_line sides (many i) user (shown file files refl i))
    ∙ nested (side_text sides.0) (side_text sides.1) (decimal (1 + length files)) user (line file.1)

-- a user before anything is counted
abbrev at_start : (loaded now : State) → PasswdRow → Gained
at_start loaded now row = (placed_in loaded.people now.people row.name, [])

-- ---- of two states

module _ (V : Verdict) (along : Bool) (loaded now : State) (before_order : IsInOrder loaded.tree.files) (after_order : IsInOrder now.tree.files) where
  abbrev rows_before : Rows
  rows_before = rows_granted V along loaded

  abbrev rows_after : Rows
  rows_after = rows_granted V along now

  abbrev all_shown : List (PathOf × List ℕ)
  all_shown = files_of_both loaded now

  abbrev all_rows : Rows
  all_rows = put_all rows_after rows_before

  abbrev text_of : PathOf → List ℕ
  text_of p = text_in loaded.tree now.tree p

  abbrev with_text : PathOf × List ℕ → PathOf × List ℕ
  with_text row = (row.0, text_of row.0)

  all_texts : map with_text all_rows ≡ all_shown
  all_texts = texts_are V along loaded now before_order after_order

  -- the first file that passes is printed by its path
  told : (test : PathOf × List ℕ → Bool) (rows : Rows) (file : PathOf × List ℕ) (more : List (PathOf × List ℕ)) → filter test (map with_text rows) ≡ file ∷ more → text_of file.0 ≡ file.1
  told test [] file more is = absurd (cc is)
  told test (row ∷ rows) file more is = by (test (with_text row)) is (told test rows file more)
    where
      by : (b : Bool) → cond b (with_text row ∷ filter test (map with_text rows)) (filter test (map with_text rows)) ≡ file ∷ more
          → (filter test (map with_text rows) ≡ file ∷ more → text_of file.0 ≡ file.1) → text_of file.0 ≡ file.1
      by true is later = let same : with_text row ≡ file = cc in subst (λ (f : PathOf × List ℕ). text_of f.0 ≡ f.1) same refl
      by false is later = later is

  -- ---- a file of a user

  cell_is : (s : State) (name : List ℕ) (p : PathOf) → verdict_given (find path_cmp p (rows_granted V along s)) (place_of s name) ≡ granted_in V along loaded now s name p
  cell_is s name p = by (place_of s name)
    where
      nobody : (row : Option (List ℕ)) → verdict_given row None ≡ None
      nobody None = refl
      nobody (Some row) = refl

      by : (place : Option ℕ) → verdict_given (find path_cmp p (rows_granted V along s)) place ≡ option_and_then (λ user. can_requests V along s user p) place
      by None = nobody (find path_cmp p (rows_granted V along s))
      by (Some user) = cell_along V along s (table_of V s) (whole_table V s) user p

  module _ (name : List ℕ) where
    abbrev places : Sides
    places = (place_of loaded name, place_of now name)

    abbrev rows_at : PathOf → RowsOfFile
    rows_at p = (find path_cmp p rows_before, find path_cmp p rows_after)

    -- the change that a file is
    change_at : (p : PathOf) → change_of places (rows_at p) ≡ cond (is_change (is_kept V along loaded now p) (sides_of V along loaded now name p)) (Some (sides_of V along loaded now name p)) None
    change_at p =
        let cells : cells_of_both places (rows_at p) ≡ sides_of V along loaded now name p = λ i. (cell_is loaded name p i, cell_is now name p i) in
        let was = some_by_paths p rows_before loaded.tree.files (rows_paths V along loaded (table_of V loaded) (whole_table V loaded)) in
        let is = some_by_paths p rows_after now.tree.files (rows_paths V along now (table_of V now) (whole_table V now)) in
        λ i. cond (is_change (was i && is i) (cells i)) (Some (cells i)) None

    abbrev at_paths : List PathOf → List (Tallied Sides)
    at_paths [] = []
    at_paths (p ∷ ps) = keyed (change_of places (rows_at p)) 1 p ++ at_paths ps

    ones_by_paths : (rows : Rows) → changes_of places (map (λ row. (row.0, rows_at row.0)) rows) ≡ at_paths (paths rows)
    ones_by_paths [] = refl
    ones_by_paths (row ∷ rows) = ap (λ l. keyed (change_of places (rows_at row.0)) 1 row.0 ++ l) (ones_by_paths rows)

    module _ (sides : Sides) where
      abbrev has_it : PathOf × List ℕ → Bool
      has_it file = has_change V along loaded now name sides file.0

      abbrev sides_at : PathOf → Sides
      sides_at p = sides_of V along loaded now name p

      abbrev changed_at : PathOf → Bool
      changed_at p = is_change (is_kept V along loaded now p) (sides_at p)

      counts : (files : List (PathOf × List ℕ)) → count_where (is_same sides) (at_paths (paths files)) ≡ length (filter has_it files)
      counts [] = refl
      counts (file ∷ files) =
          ap (λ o. count_where (is_same sides) (keyed o 1 file.0 ++ at_paths (paths files))) (change_at file.0)
          ∙ by (changed_at file.0) (is_same sides (sides_at file.0)) refl (counts files)
        where
          by : (a b : Bool) → is_same sides (sides_at file.0) ≡ b → count_where (is_same sides) (at_paths (paths files)) ≡ length (filter has_it files)
              → count_where (is_same sides) (keyed (cond a (Some (sides_at file.0)) None) 1 file.0 ++ at_paths (paths files))
              ≡ length (cond (a && b) (file ∷ filter has_it files) (filter has_it files))
          by true true is more =
              let one : 1 + length (filter has_it files) ≡ suc (length (filter has_it files)) = omega arith in
              (λ i. cond (is i) 1 0 + more i) ∙ one
          by true false is more =
              let none : 0 + length (filter has_it files) ≡ length (filter has_it files) = omega arith in
              (λ i. cond (is i) 1 0 + more i) ∙ none
          by false b is more = more

      firsts : (files : List (PathOf × List ℕ)) → first_where (is_same sides) (at_paths (paths files)) ≡ first_path (filter has_it files)
      firsts [] = refl
      firsts (file ∷ files) =
          ap (λ o. first_where (is_same sides) (keyed o 1 file.0 ++ at_paths (paths files))) (change_at file.0)
          ∙ by (changed_at file.0) (is_same sides (sides_at file.0)) refl (firsts files)
        where
          picked : Bool → Option PathOf
          picked b = option_map (λ (t : Tallied Sides). t.first) (cond b (Some (one (sides_at file.0) file.0)) (lists.find (λ (t : Tallied Sides). is_same sides t.key) (at_paths (paths files))))

          by : (a b : Bool) → is_same sides (sides_at file.0) ≡ b → first_where (is_same sides) (at_paths (paths files)) ≡ first_path (filter has_it files)
              → first_where (is_same sides) (keyed (cond a (Some (sides_at file.0)) None) 1 file.0 ++ at_paths (paths files))
              ≡ first_path (cond (a && b) (file ∷ filter has_it files) (filter has_it files))
          by true true is more = ap picked is
          by true false is more = ap picked is ∙ more
          by false b is more = more

      line_is : tally_line (text_in loaded.tree now.tree) (escaped name) (at_paths (paths all_shown)) sides ≡ gain_line (escaped name) sides (files_with V along loaded now name sides)
      line_is =
          (λ i. counted_line (text_in loaded.tree now.tree) (escaped name) sides (counts all_shown i) (firsts all_shown i))
          ∙ line_of_files text_of (escaped name) sides (filter has_it all_shown) (λ file more is. told has_it all_rows file more (ap (filter has_it) all_texts ∙ is))

    -- ---- a user

    pub user_is : (gained : List (Tallied Sides)) → SaysAs gained (changes_of places (rows_in_both V along loaded now))
        → lines_by_sides (tally_line (text_in loaded.tree now.tree) (escaped name) gained) ≡ gain_lines V along loaded now name
    user_is gained says =
        let ones : changes_of places (rows_in_both V along loaded now) ≡ at_paths (paths all_shown) =
        ones_by_paths all_rows ∙ ap at_paths (sym (same_paths (λ row. text_of row.0) all_rows) ∙ ap paths all_texts) in
        let of_side : (sides : Sides) → tally_line (text_in loaded.tree now.tree) (escaped name) gained sides ≡ gain_line (escaped name) sides (files_with V along loaded now name sides) =
        λ sides.
        same_line (text_in loaded.tree now.tree) (escaped name) gained (changes_of places (rows_in_both V along loaded now)) says sides
        ∙ ap (λ l. tally_line (text_in loaded.tree now.tree) (escaped name) l sides) ones
        ∙ line_is sides
        in
        lines_same (λ b. lines_up_to (λ a. tally_line (text_in loaded.tree now.tree) (escaped name) gained (side_of b, side_of a)) number_of_sides)
        (λ b. lines_up_to (λ a. gain_line (escaped name) (side_of b, side_of a) (files_with V along loaded now name (side_of b, side_of a))) number_of_sides) number_of_sides
        (λ b. lines_same (λ a. tally_line (text_in loaded.tree now.tree) (escaped name) gained (side_of b, side_of a))
        (λ a. gain_line (escaped name) (side_of b, side_of a) (files_with V along loaded now name (side_of b, side_of a))) number_of_sides (λ a. of_side (side_of b, side_of a)))

  -- ---- all users

  pub users_are : (rows : List PasswdRow) (users : List UserGains) → AllOfBoth (HasChanges (rows_in_both V along loaded now)) (map (at_start loaded now) rows) (map gained_of users)
      → flat_map (lines_of_user (text_in loaded.tree now.tree)) users ≡ flat_map (λ row. gain_lines V along loaded now row.name) rows
  users_are [] [] h = refl
  users_are [] (user ∷ users) h = absurd h
  users_are (row ∷ rows) [] h = absurd h
  users_are (row ∷ rows) (user ∷ users) h =
      let name : user.user.name.items ≡ escaped row.name = ap (λ (p : Placed). p.0) h.0.0 in
      let says = h.0.1 [] (record { counts = λ test. refl; firsts = λ test. refl }) in
      let here = ap (λ n. lines_by_sides (tally_line (text_in loaded.tree now.tree) n user.tallies)) name ∙ user_is row.name user.tallies says in
      let more = users_are rows users h.1 in
      λ i. here i ++ more i

beside_none : {A : Type 0} (f : A → Placed) (xs : List A) → map {B = Gained} (λ x. (f x, [])) xs ≡ map {B = Gained} (λ (p : Placed). (p, [])) (map f xs)
beside_none f [] = refl
beside_none f (x ∷ xs) = let here : Gained = (f x, []) in ap (λ l. here ∷ l) (beside_none f xs)

-- the lines of all users, out of what was found
pub all_gains : (V : Verdict) (along : Bool) (loaded now : State) → IsInOrder loaded.tree.files → IsInOrder now.tree.files
    → (were are : KnownPeople) → were ≡ loaded.people → are ≡ now.people
    → (placed : List PlacedUser) → map placed_of placed ≡ map (λ row. placed_in were are row.name) (are.users ++ filter (λ row. not (has_name row.name (users_of are))) were.users)
    → (started ended : List UserGains) → map gained_of started ≡ map {B = Gained} (λ user. (placed_of user, [])) placed → HaveChanges (rows_in_both V along loaded now) started ended
    → flat_map (lines_of_user (text_in loaded.tree now.tree)) ended ≡ gains_text V along loaded now
all_gains V along loaded now before_order after_order were are p q placed known started ended start changes =
    let rows = users_of_both loaded now in
    let placed_rows : map placed_of placed ≡ map (λ row. placed_in loaded.people now.people row.name) rows =
    known ∙ (λ i. map (λ row. placed_in (p i) (q i) row.name) ((q i).users ++ filter (λ row. not (has_name row.name (users_of (q i)))) (p i).users)) in
    let at : map gained_of started ≡ map (at_start loaded now) rows =
    start ∙ beside_none placed_of placed ∙ ap (map {B = Gained} (λ (u : Placed). (u, []))) placed_rows ∙ sym (beside_none (λ row. placed_in loaded.people now.people row.name) rows) in
    users_are V along loaded now before_order after_order rows ended (subst (λ l. AllOfBoth (HasChanges (rows_in_both V along loaded now)) l (map gained_of ended)) at changes)

-- what is written back over a whole list
pub written_back : {A : Type 0} (n : ℕ) (items new : List A) → n ≡ length new → take n (new ++ drop (length new) items) ≡ new
written_back n items new long = ap (λ k. take k (new ++ drop (length new) items)) long ∙ take-append_seam new (drop (length new) items)

-- users are as many as they were
pub as_many : (files : List (PathOf × RowsOfFile)) (xs ys : List UserGains) → HaveChanges files xs ys → length xs ≡ length ys
as_many files [] [] h = refl
as_many files [] (y ∷ ys) h = absurd h
as_many files (x ∷ xs) [] h = absurd h
as_many files (x ∷ xs) (y ∷ ys) h = ap suc (as_many files xs ys h.1)
