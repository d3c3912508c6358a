-- What is printed of the files of two states, by their rows, is what differs between the states.
use Rattle.std.proofs.Common.{◌≡◌, ℕ, zero, suc, ◌+◌, arith, Bool, true, false, not, cond, length, take, List, [], ◌∷◌, ◌++◌, map, filter, Option, is_some}
use Rattle.std.proofs.Common.{Some, None, Ordering, Less, Equal, Greater, refl, sym, ap, subst, ◌∙◌}
use Rattle.std.specs.Prelude.{option_map, option_and_then, slice_get, unwrap_or, ◌&&◌}
use Rattle.std.specs.List.{flat_map}
use Rattle.std.specs.Option.{option_or}
use Rattle.std.specs.Ordering.{is_eq, is_lt}
use Rattle.std.specs.FinMap.{find, is_sorted}
use Rattle.std.specs.FinMap.Entries.{below_all}
use Rattle.acl_names.specs.Paths.{PathOf, path_cmp}
use Rattle.acl_names.proofs.PathOrder.{exact_paths}
use Rattle.path_map.specs.Entries.{IsInOrder}
use Rattle.path_map.specs.Merged.{put_all}
use Rattle.path_map.proofs.Merges.{in_order-put_all}
use Rattle.path_map.proofs.Rows.{find_put_all}
use Rattle.acl_names.specs.Names.{escaped}
use Rattle.acl_people.specs.KnownPeople.{KnownPeople, persons, users_of}
use Rattle.acl_people.specs.NameTables.{has_name}
use Rattle.acl_tree.specs.Files.{Files}
use Rattle.acl_tree.specs.Found.{FoundFile, found_in}
use Rattle.acl_tree.specs.State.{State}
use Rattle.path_classes.specs.Rows.{Rows}
use Rattle.path_classes.proofs.Maps.{same_found}
use Rattle.acl_rights.specs.Rows.{Verdict, rows_of}
use Rattle.acl_rights.specs.Tables.{VerdictTable, IsWhole}
use Rattle.path_classes.specs.ReachedRows.{rows_along, reached_from}
use Rattle.acl_rights.proofs.Asked.{cell_is}
use Rattle.acl_rights.proofs.Reached.{reach_is}
use Rattle.facl_answers.specs.declared.placed_users.PlacedUser.{PlacedUser}
use Rattle.facl_output.specs.Listings.{path_shown}
use Rattle.acl_rights.specs.Verdicts.{can_requests, rows_granted}
use Rattle.facl_answers.specs.BothStates.{rows_at, rows_in_both}
use Rattle.facl_answers.specs.ChangesText.{change_lines, users_of_both, shown_files, files_of_both, place_of, granted_to, changes_text}
use Rattle.facl_answers.specs.Inner.{Placed, placed_of, placed_in, verdict_or_none, lines_of_file, lines_of_files}
use Rattle.facl_answers.specs.PathTexts.{text_in}
use Rattle.acl_rights.proofs.AskedAlong.{can_alone, can_along}

flat-map : {A B C : Type 0} (h : B → List C) (f : A → B) (xs : List A) → flat_map h (map f xs) ≡ flat_map (λ x. h (f x)) xs
flat-map h f [] = refl
flat-map h f (x ∷ xs) = ap (λ l. h (f x) ++ l) (flat-map h f xs)

flat_same : {A C : Type 0} (g h : A → List C) (xs : List A) → ((x : A) → g x ≡ h x) → flat_map g xs ≡ flat_map h xs
flat_same g h [] same = refl
flat_same g h (x ∷ xs) same = λ i. same x i ++ flat_same g h xs same i

-- one user more, who counts where a test fails
pub one_gone : {A B : Type 0} (test : A → Bool) (f : A → B) (xs : List A) (i : ℕ) (x : A) → slice_get xs i ≡ Some x
    → map f (filter (λ y. not (test y)) (take (i + 1) xs)) ≡ map f (filter (λ y. not (test y)) (take i xs)) ++ cond (test x) [] (f x ∷ [])
one_gone test f [] i x h = absurd (cc h)
one_gone test f (y ∷ xs) zero x h = let same : y ≡ x = cc in by (test y) ∙ ap (λ z. cond (test z) [] (f z ∷ [])) same
  where
    by : (b : Bool) → map f (cond (not b) (y ∷ []) []) ≡ cond b [] (f y ∷ [])
    by true = refl
    by false = refl
one_gone test f (y ∷ xs) (suc i) x h =
    let on : suc i + 1 ≡ suc (i + 1) = omega arith in
    ap (λ k. map f (filter (λ z. not (test z)) (take k (y ∷ xs)))) on ∙ by (test y) (one_gone test f xs i x h)
  where
    by : (b : Bool) → map f (filter (λ z. not (test z)) (take (i + 1) xs)) ≡ map f (filter (λ z. not (test z)) (take i xs)) ++ cond (test x) [] (f x ∷ [])
        → map f (cond (not b) (y ∷ filter (λ z. not (test z)) (take (i + 1) xs)) (filter (λ z. not (test z)) (take (i + 1) xs)))
        ≡ map f (cond (not b) (y ∷ filter (λ z. not (test z)) (take i xs)) (filter (λ z. not (test z)) (take i xs))) ++ cond (test x) [] (f x ∷ [])
    by true more = more
    by false more = ap (λ l. f y ∷ l) more

-- ---- paths

abbrev pub paths : {A : Type 0} → List (PathOf × A) → List PathOf
paths es = map (λ e. e.0) es

below_by_paths : {A B : Type 0} (p : PathOf) (xs : List (PathOf × A)) (ys : List (PathOf × B)) → paths xs ≡ paths ys → below_all path_cmp p xs ≡ below_all path_cmp p ys
below_by_paths p [] [] h = refl
below_by_paths p [] (y ∷ ys) h = absurd (cc h)
below_by_paths p (x ∷ xs) [] h = absurd (cc h)
below_by_paths p (x ∷ xs) (y ∷ ys) h =
    let here : x.0 ≡ y.0 = cc in
    let later : paths xs ≡ paths ys = cc in
    λ i. is_lt (path_cmp p (here i)) && below_by_paths p xs ys later i

pub order_by_paths : {A B : Type 0} (xs : List (PathOf × A)) (ys : List (PathOf × B)) → paths xs ≡ paths ys → is_sorted path_cmp xs ≡ is_sorted path_cmp ys
order_by_paths [] [] h = refl
order_by_paths [] (y ∷ ys) h = absurd (cc h)
order_by_paths (x ∷ xs) [] h = absurd (cc h)
order_by_paths (x ∷ xs) (y ∷ ys) h =
    let here : x.0 ≡ y.0 = cc in
    let later : paths xs ≡ paths ys = cc in
    (λ i. below_all path_cmp (here i) xs && order_by_paths xs ys later i) ∙ ap (λ b. b && is_sorted path_cmp ys) (below_by_paths y.0 xs ys later)

pub same_paths : {A : Type 0} (f : PathOf × A → List ℕ) (es : List (PathOf × A)) → paths (map (λ e. (e.0, f e)) es) ≡ paths es
same_paths f [] = refl
same_paths f (e ∷ es) = ap (λ l. e.0 ∷ l) (same_paths f es)

-- the same paths have values
pub some_by_paths : {A B : Type 0} (p : PathOf) (xs : List (PathOf × A)) (ys : List (PathOf × B)) → paths xs ≡ paths ys → is_some (find path_cmp p xs) ≡ is_some (find path_cmp p ys)
some_by_paths p [] [] h = refl
some_by_paths p [] (y ∷ ys) h = absurd (cc h)
some_by_paths p (x ∷ xs) [] h = absurd (cc h)
some_by_paths p (x ∷ xs) (y ∷ ys) h =
    let here : x.0 ≡ y.0 = cc in
    let later : paths xs ≡ paths ys = cc in
    by (is_eq (path_cmp p x.0)) (some_by_paths p xs ys later)
    ∙ ap (λ q. is_some (cond (is_eq (path_cmp p q)) (Some y.1) (find path_cmp p ys))) here
  where
    by : (b : Bool) → is_some (find path_cmp p xs) ≡ is_some (find path_cmp p ys) → is_some (cond b (Some x.1) (find path_cmp p xs)) ≡ is_some (cond b (Some y.1) (find path_cmp p ys))
    by true more = refl
    by false more = more

-- values that are made of their paths
find_made : {A B : Type 0} (f : PathOf → B) (p : PathOf) (es : List (PathOf × A)) → find path_cmp p (map (λ e. (e.0, f e.0)) es) ≡ option_map (λ _. f p) (find path_cmp p es)
find_made f p [] = refl
find_made f p (e ∷ es) = by (path_cmp p e.0) refl (find_made f p es)
  where
    by : (o : Ordering) → path_cmp p e.0 ≡ o → find path_cmp p (map (λ e. (e.0, f e.0)) es) ≡ option_map (λ _. f p) (find path_cmp p es)
        → cond (is_eq o) (Some (f e.0)) (find path_cmp p (map (λ e. (e.0, f e.0)) es)) ≡ option_map (λ _. f p) (cond (is_eq o) (Some e.1) (find path_cmp p es))
    by Less is more = more
    by Equal is more = ap (λ q. Some (f q)) (sym (exact_paths p e.0 is))
    by Greater is more = more

abbrev pub shown : FoundFile → PathOf × List ℕ
shown file = (file.path, path_shown file)

pub shown_paths : (t es : Files) → paths (map shown (found_in t es)) ≡ paths es
shown_paths t [] = refl
shown_paths t (e ∷ es) = ap (λ l. e.0 ∷ l) (shown_paths t es)

pub shown_order : (t : Files) → IsInOrder t → IsInOrder (map shown (found_in t t))
shown_order t order = subst (λ b. b ≡ true) (sym (order_by_paths (map shown (found_in t t)) t (shown_paths t t))) order

-- ---- of a state with its table

-- the table of a state
abbrev pub table_of : Verdict → State → VerdictTable
table_of V s = record { users = length s.people.users; files = s.tree.files; rows = rows_of V (persons s.people) s.tree.files }

pub whole_table : (V : Verdict) (s : State) → IsWhole V s (table_of V s)
whole_table V s = record { users = refl; files = refl; rows = refl }

module _ (V : Verdict) (along : Bool) (s : State) (t : VerdictTable) (whole : IsWhole V s t) where
  pub rows_paths : paths (rows_along along t.rows) ≡ paths s.tree.files
  rows_paths = by along
    where
      alone : paths t.rows ≡ paths s.tree.files
      alone = ap (λ (rows : Rows). paths rows) whole.rows ∙ same_paths (λ e. map (λ u. V u e.1.label) (persons s.people)) s.tree.files

      by : (b : Bool) → paths (rows_along b t.rows) ≡ paths s.tree.files
      by true = same_paths (λ r. reached_from t.rows r.0 0 r.1) t.rows ∙ alone
      by false = alone

  -- a verdict in its row
  pub cell_along : (user : ℕ) (p : PathOf) → option_and_then (λ (cells : List ℕ). slice_get cells user) (find path_cmp p (rows_along along t.rows)) ≡ can_requests V along s user p
  cell_along user p = by along
    where
      by : (b : Bool) → option_and_then (λ (cells : List ℕ). slice_get cells user) (find path_cmp p (rows_along b t.rows)) ≡ can_requests V b s user p
      by true = reach_is V s t whole user p ∙ can_along V s user p
      by false = cell_is V s t whole user p ∙ can_alone V s user p

-- ---- of two states

-- the rows of a state are in order
pub rows_order : (V : Verdict) (along : Bool) (s : State) → IsInOrder s.tree.files → IsInOrder (rows_granted V along s)
rows_order V along s order = subst (λ b. b ≡ true) (sym (order_by_paths (rows_granted V along s) s.tree.files (rows_paths V along s (table_of V s) (whole_table V s)))) order

-- one path is there with a text as it is there with a row
same_text : (a b s t : Option (List ℕ)) → is_some a ≡ is_some s → is_some b ≡ is_some t → option_map (λ _. unwrap_or (option_or s t) []) (option_or a b) ≡ option_or s t
same_text (Some a) b (Some s) t h k = refl
same_text (Some a) b None t h k = absurd (cc h)
same_text None b (Some s) t h k = absurd (cc h)
same_text None (Some b) None (Some t) h k = refl
same_text None (Some b) None None h k = absurd (cc k)
same_text None None None (Some t) h k = absurd (cc k)
same_text None None None None h k = refl

module _ (V : Verdict) (along : Bool) (loaded now : State) (before_order : IsInOrder loaded.tree.files) (after_order : IsInOrder now.tree.files) where
  abbrev pub rows_before : Rows
  rows_before = rows_granted V along loaded

  abbrev pub rows_after : Rows
  rows_after = rows_granted V along now

  abbrev pub text_of : PathOf → List ℕ
  text_of p = text_in loaded.tree now.tree p

  abbrev pub with_text : PathOf × List ℕ → PathOf × List ℕ
  with_text row = (row.0, text_of row.0)

  there : (s : State) (p : PathOf) → is_some (find path_cmp p (rows_granted V along s)) ≡ is_some (find path_cmp p (shown_files s))
  there s p = some_by_paths p (rows_granted V along s) (shown_files s) (rows_paths V along s (table_of V s) (whole_table V s) ∙ sym (shown_paths s.tree.files s.tree.files))

  -- the files of both by their paths, as they are printed
  pub texts_are : map with_text (put_all rows_after rows_before) ≡ files_of_both loaded now
  texts_are =
      let all = put_all rows_after rows_before in
      same_found (map with_text all) (files_of_both loaded now)
      (subst (λ b. b ≡ true) (sym (order_by_paths (map with_text all) all (same_paths (λ e. text_of e.0) all))) (in_order-put_all rows_after rows_before (rows_order V along loaded before_order)))
      (in_order-put_all (shown_files now) (shown_files loaded) (shown_order loaded.tree.files before_order))
      (λ p.
      find_made text_of p all
      ∙ ap (option_map (λ _. text_of p)) (find_put_all p rows_after rows_before (rows_order V along now after_order))
      ∙ same_text (find path_cmp p rows_after) (find path_cmp p rows_before) (find path_cmp p (shown_files now)) (find path_cmp p (shown_files loaded)) (there now p) (there loaded p)
      ∙ sym (find_put_all p (shown_files now) (shown_files loaded) (shown_order now.tree.files after_order)))

  -- what a row grants a user is what the user is granted
  cell_granted : (s : State) (name : List ℕ) (p : PathOf) → verdict_or_none (unwrap_or (find path_cmp p (rows_granted V along s)) []) (place_of s name) ≡ granted_to V along s name p
  cell_granted s name p = by (place_of s name)
    where
      in_row : (user : ℕ) (o : Option (List ℕ)) → slice_get (unwrap_or o []) user ≡ option_and_then (λ (cells : List ℕ). slice_get cells user) o
      in_row user None = refl
      in_row user (Some cells) = refl

      by : (place : Option ℕ) → verdict_or_none (unwrap_or (find path_cmp p (rows_granted V along s)) []) place ≡ unwrap_or (option_and_then (λ user. can_requests V along s user p) place) 0
      by None = refl
      by (Some user) = ap (λ o. unwrap_or o 0) (in_row user (find path_cmp p (rows_granted V along s)) ∙ cell_along V along s (table_of V s) (whole_table V s) user p)

  module _ (users : List PlacedUser) (known : map placed_of users ≡ map (λ row. placed_in loaded.people now.people row.name) (users_of_both loaded now)) where
    abbrev lines_at : PathOf → List ℕ → List ℕ
    lines_at p path = flat_map (λ row. change_lines path (escaped row.name) (granted_to V along loaded row.name p) (granted_to V along now row.name p)) (users_of_both loaded now)

    -- the lines of a file, user by user
    file_lines : (p : PathOf) → lines_of_file users text_of (p, rows_at V along loaded now p) ≡ lines_at p (text_of p)
    file_lines p =
        let had : List ℕ = unwrap_or (find path_cmp p rows_before) [] in
        let has : List ℕ = unwrap_or (find path_cmp p rows_after) [] in
        let lines_of : Placed → List ℕ = λ user. change_lines (text_of p) user.0 (verdict_or_none had user.1.0) (verdict_or_none has user.1.1) in
        sym (flat-map lines_of placed_of users)
        ∙ ap (flat_map lines_of) known
        ∙ flat-map lines_of (λ row. placed_in loaded.people now.people row.name) (users_of_both loaded now)
        ∙ flat_same (λ row. lines_of (placed_in loaded.people now.people row.name))
        (λ row. change_lines (text_of p) (escaped row.name) (granted_to V along loaded row.name p) (granted_to V along now row.name p)) (users_of_both loaded now)
        (λ row i. change_lines (text_of p) (escaped row.name) (cell_granted loaded row.name p i) (cell_granted now row.name p i))

    -- the lines of all files
    pub lines_are : lines_of_files users text_of (rows_in_both V along loaded now) ≡ changes_text V along loaded now
    lines_are =
        let all = put_all rows_after rows_before in
        flat-map (lines_of_file users text_of) (λ (row : PathOf × List ℕ). (row.0, rows_at V along loaded now row.0)) all
        ∙ flat_same (λ row. lines_of_file users text_of (row.0, rows_at V along loaded now row.0)) (λ row. lines_at row.0 (text_of row.0)) all (λ row. file_lines row.0)
        ∙ sym (flat-map (λ (file : PathOf × List ℕ). lines_at file.0 file.1) with_text all)
        ∙ ap (flat_map (λ (file : PathOf × List ℕ). lines_at file.0 file.1)) texts_are

-- what is printed of both, out of the users that were found
pub all_lines : (V : Verdict) (along : Bool) (loaded now : State) → IsInOrder loaded.tree.files → IsInOrder now.tree.files
    → (were are : KnownPeople) → were ≡ loaded.people → are ≡ now.people
    → (users known : List PlacedUser) → known ≡ users
    → map placed_of users ≡ map (λ row. placed_in were are row.name) (are.users ++ filter (λ row. not (has_name row.name (users_of are))) were.users)
    → (start text : List ℕ) → start ≡ [] → text ≡ start ++ lines_of_files known (text_in loaded.tree now.tree) (rows_in_both V along loaded now) → text ≡ changes_text V along loaded now
all_lines V along loaded now before_order after_order were are p q users known same placed start text empty pushed =
    pushed
    ∙ (λ i. empty i ++ lines_of_files (same i) (text_in loaded.tree now.tree) (rows_in_both V along loaded now))
    ∙ lines_are V along loaded now before_order after_order users
    (placed ∙ (λ i. map (λ row. placed_in (p i) (q i) row.name) ((q i).users ++ filter (λ row. not (has_name row.name (users_of (q i)))) (p i).users)))
