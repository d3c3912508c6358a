-- `gains` prints nothing exactly where nothing changed, and its lines count each change once.
use Rattle.std.proofs.Common.{◌≡◌, ℕ, ◌+◌, ◌<◌, Bool, true, false, cond, not, List, [], ◌∷◌, ◌++◌, map, filter, length, Option, Some, None, refl, sym, ap, subst, ◌∙◌, arith}
use Rattle.std.specs.Prelude.{◌&&◌, ◌||◌, ◌↔◌, codes, decimal, option_map, option_and_then, slice_get}
use Rattle.std.specs.List.{AllByRecursion, flat_map, list_any, sum_by}
use Rattle.std.specs.FinMap.{find}
use Rattle.std.proofs.lemmas.Bool.{or_from, or_parts}
use Rattle.std.proofs.lemmas.List.{length-append, length-map}
use Rattle.std.proofs.lemmas.List.Sums.{sum_by-cons}
use Rattle.acl_entry.specs.Check.{has}
use Rattle.acl_entry.specs.Perms.{Perms, text}
use Rattle.acl_edit.specs.declared.node.Node.{Node}
use Rattle.acl_names.specs.Names.{escaped}
use Rattle.acl_names.specs.Paths.{PathOf, path_cmp}
use Rattle.acl_people.specs.KnownPeople.{person}
use Rattle.acl_text.specs.declared.rows.PasswdRow.{PasswdRow}
use Rattle.acl_tree.specs.State.{State}
use Rattle.acl_rights.specs.Reach.{passes}
use Rattle.acl_rights.specs.Rows.{Verdict}
use Rattle.acl_rights.specs.Verdicts.{granted, can_requests}
use Rattle.facl_answers.specs.Answers.{line}
use Rattle.facl_answers.specs.ChangesText.{after_comma, change_line, change_lines, files_of_both, granted_to, place_of, requests_gained, users_of_both}
use Rattle.facl_counts.specs.GainsLaws.{AreBytes, IsWithoutChange, changed_files, changed_pairs, counted, is_changed}
use Rattle.facl_counts.specs.GainsText.{files_with, gain_line, gain_lines, gains_text, granted_in, is_change, is_gained, is_kept, is_same, lines_up_to, number_of_sides, side_of, side_text, sides_of}
use Rattle.facl_answers.specs.Requests.{requests_granted}
use Rattle.facl_answers.specs.BothStates.{Sides}
use Rattle.facl_counts.proofs.GainLines.{no_lines}
use Rattle.facl_counts.proofs.SideSums.{IsByte, each_once, no_left, no_right, silent_sides}

-- ---- lists

none_of_both : {A : Type 0} (f g : A → Bool) (xs : List A) → filter f xs ≡ [] → filter (λ x. f x && g x) xs ≡ []
none_of_both f g [] h = refl
none_of_both f g (x ∷ xs) h = by (f x) h (none_of_both f g xs)
  where
    by : (b : Bool) → cond b (x ∷ filter f xs) (filter f xs) ≡ [] → (filter f xs ≡ [] → filter (λ x. f x && g x) xs ≡ [])
        → cond (b && g x) (x ∷ filter (λ x. f x && g x) xs) (filter (λ x. f x && g x) xs) ≡ []
    by true h more = absurd (cc h)
    by false h more = more h

no_items : {A : Type 0} (xs : List A) → length xs ≡ 0 → xs ≡ []
no_items [] h = refl
no_items (x ∷ xs) h = absurd (omega (arith, h))

not_empty : (user : List ℕ) (c : ℕ) (more : List ℕ) → user ++ (c ∷ more) ≡ [] → ⊥
not_empty [] c more h = absurd (cc h)
not_empty (b ∷ user) c more h = absurd (cc h)

none_pass : {A : Type 0} (f : A → Bool) (xs : List A) → list_any f xs ≡ false → filter f xs ≡ []
none_pass f [] h = refl
none_pass f (x ∷ xs) h = let parts = or_parts (f x) (list_any f xs) h in ap (λ b. cond b (x ∷ filter f xs) (filter f xs)) parts.0 ∙ none_pass f xs parts.1

none_passes : {A : Type 0} (f : A → Bool) (xs : List A) → filter f xs ≡ [] → list_any f xs ≡ false
none_passes f [] h = refl
none_passes f (x ∷ xs) h = by (f x) h (none_passes f xs)
  where
    by : (b : Bool) → cond b (x ∷ filter f xs) (filter f xs) ≡ [] → (filter f xs ≡ [] → list_any f xs ≡ false) → (b || list_any f xs) ≡ false
    by true h more = absurd (cc h)
    by false h more = more h

-- ---- a line

no_files : (user : List ℕ) (sides : Sides) (files : List (PathOf × List ℕ)) → gain_line user sides files ≡ [] → length files ≡ 0
no_files user sides [] h = refl
no_files user sides (file ∷ files) h =
    absurd (not_empty (side_text sides.0) 32 (side_text sides.1 ++ (32 ∷ (decimal (1 + length files) ++ (32 ∷ (user ++ (32 ∷ line file.1)))))) h)

no_requests : (path user word : List ℕ) (qs : List Perms) → change_line path user word qs ≡ [] → qs ≡ []
no_requests path user word [] h = refl
no_requests path user word (q ∷ qs) h = absurd (not_empty user 32 (word ++ (32 ∷ (text q ++ (flat_map after_comma qs ++ (32 ∷ line path))))) h)

-- a file that is there before and after is a change exactly where `changes` has a line of it
pub kept_change : (path user : List ℕ) (before after : ℕ) → (change_lines path user before after ≡ []) ↔ ((is_gained before after || is_gained after before) ≡ false)
kept_change path user before after = (to, from)
  where
    gains : List ℕ
    gains = change_line path user (codes "gains") (requests_gained before after)

    loses : List ℕ
    loses = change_line path user (codes "loses") (requests_gained after before)

    to : change_lines path user before after ≡ [] → (is_gained before after || is_gained after before) ≡ false
    to h =
        or_from (is_gained before after) (is_gained after before)
        (none_passes (λ request. not (has before request)) (requests_granted after) (no_requests path user (codes "gains") (requests_gained before after) (no_left gains loses h)))
        (none_passes (λ request. not (has after request)) (requests_granted before) (no_requests path user (codes "loses") (requests_gained after before) (no_right gains loses h)))

    from : (is_gained before after || is_gained after before) ≡ false → change_lines path user before after ≡ []
    from h =
        let parts = or_parts (is_gained before after) (is_gained after before) h in
        let gained = none_pass (λ request. not (has before request)) (requests_granted after) parts.0 in
        let lost = none_pass (λ request. not (has after request)) (requests_granted before) parts.1 in
        λ i. change_line path user (codes "gains") (gained i) ++ change_line path user (codes "loses") (lost i)

-- ---- two states

module _ (V : Verdict) (along : Bool) (loaded now : State) where
  -- what is granted is a byte
  byte : AreBytes V → (s : State) (name : List ℕ) (p : PathOf) → IsByte (granted_in V along loaded now s name p)
  byte bytes s name p = of_place (place_of s name)
    where
      reached : (b : Bool) (n : ℕ) → n < 256 → cond b n 0 < 256
      reached true n small = small
      reached false n small = omega arith

      of_row : (b : Bool) (row : PasswdRow) (n : Node) → granted V b s row (p, n) < 256
      of_row true row n = reached (passes V s.tree.files (person s.people.groups row) p) (V (person s.people.groups row) n.label) (bytes (person s.people.groups row) n.label)
      of_row false row n = bytes (person s.people.groups row) n.label

      of_user : (n : Node) (o : Option PasswdRow) → IsByte (option_map (λ row. granted V along s row (p, n)) o)
      of_user n None = tt
      of_user n (Some row) = of_row along row n

      of_file : (user : ℕ) (o : Option Node) → IsByte (option_and_then (λ n. option_map (λ row. granted V along s row (p, n)) (slice_get s.people.users user)) o)
      of_file user None = tt
      of_file user (Some n) = of_user n (slice_get s.people.users user)

      of_place : (o : Option ℕ) → IsByte (option_and_then (λ user. can_requests V along s user p) o)
      of_place None = tt
      of_place (Some user) = of_file user (find path_cmp p s.tree.files)

  -- a user's lines count each file once
  pub user_counted : AreBytes V → (name : List ℕ) → counted V along loaded now name ≡ length (changed_files V along loaded now name)
  user_counted bytes name =
      each_once (λ (file : PathOf × List ℕ). is_changed V along loaded now name file.0) (λ (file : PathOf × List ℕ). sides_of V along loaded now name file.0) (files_of_both loaded now)
      (λ file. (byte bytes loaded name file.0, byte bytes now name file.0))

  abbrev line_of : List ℕ → Sides → List ℕ
  line_of name sides = gain_line (escaped name) sides (files_with V along loaded now name sides)

  user_silent : AreBytes V → (name : List ℕ) → gain_lines V along loaded now name ≡ [] → changed_files V along loaded now name ≡ []
  user_silent bytes name h =
      no_items (changed_files V along loaded now name)
      (sym (user_counted bytes name)
      ∙ silent_sides (line_of name) (λ sides. length (files_with V along loaded now name sides)) (λ sides none. no_files (escaped name) sides (files_with V along loaded now name sides) none) h)

  user_unchanged : (name : List ℕ) → changed_files V along loaded now name ≡ [] → gain_lines V along loaded now name ≡ []
  user_unchanged name h =
      no_lines (λ before. lines_up_to (λ after. line_of name (side_of before, side_of after)) number_of_sides) number_of_sides
      (λ before. no_lines (λ after. line_of name (side_of before, side_of after)) number_of_sides (λ after. none (side_of before, side_of after)))
    where
      none : (sides : Sides) → line_of name sides ≡ []
      none sides =
          ap (gain_line (escaped name) sides)
          (none_of_both (λ (file : PathOf × List ℕ). is_changed V along loaded now name file.0) (λ (file : PathOf × List ℕ). is_same sides (sides_of V along loaded now name file.0))
          (files_of_both loaded now) h)

  abbrev lines_of : List PasswdRow → List ℕ
  lines_of rows = flat_map (λ row. gain_lines V along loaded now row.name) rows

  abbrev AreUnchanged : List PasswdRow → Type 0
  AreUnchanged rows = AllByRecursion (λ row. changed_files V along loaded now row.name ≡ []) rows

  rows_silent : AreBytes V → (rows : List PasswdRow) → lines_of rows ≡ [] → AreUnchanged rows
  rows_silent bytes [] h = tt
  rows_silent bytes (row ∷ rows) h = (
    user_silent bytes row.name (no_left (gain_lines V along loaded now row.name) (lines_of rows) h),
    rows_silent bytes rows (no_right (gain_lines V along loaded now row.name) (lines_of rows) h),
  )

  rows_unchanged : (rows : List PasswdRow) → AreUnchanged rows → lines_of rows ≡ []
  rows_unchanged [] h = refl
  rows_unchanged (row ∷ rows) h = λ i. user_unchanged row.name h.0 i ++ rows_unchanged rows h.1 i

  pub nothing_changed : AreBytes V → gains_text V along loaded now ≡ [] → IsWithoutChange V along loaded now
  nothing_changed bytes h = rows_silent bytes (users_of_both loaded now) h

  pub nothing_gained : IsWithoutChange V along loaded now → gains_text V along loaded now ≡ []
  nothing_gained h = rows_unchanged (users_of_both loaded now) h

  -- in words of `changes`
  pub kept_file : (name path : List ℕ) (p : PathOf) → is_kept V along loaded now p ≡ true
      → (change_lines path (escaped name) (granted_to V along loaded name p) (granted_to V along now name p) ≡ []) ↔ (is_changed V along loaded now name p ≡ false)
  kept_file name path p kept =
      subst (λ b. (change_lines path (escaped name) (granted_to V along loaded name p) (granted_to V along now name p) ≡ []) ↔ (is_change b (sides_of V along loaded now name p) ≡ false)) (sym kept)
      (kept_change path (escaped name) (granted_to V along loaded name p) (granted_to V along now name p))

  -- all lines count each change of a user once
  abbrev pair_of : PasswdRow → PathOf × List ℕ → List ℕ × PathOf
  pair_of row file = (row.name, file.0)

  abbrev pairs_of : PasswdRow → List (List ℕ × PathOf)
  pairs_of row = map (pair_of row) (changed_files V along loaded now row.name)

  rows_counted : AreBytes V → (rows : List PasswdRow) → sum_by (λ (row : PasswdRow). counted V along loaded now row.name) rows ≡ length (flat_map pairs_of rows)
  rows_counted bytes [] = refl
  rows_counted bytes (row ∷ rows) =
      sum_by-cons (λ (row : PasswdRow). counted V along loaded now row.name) row rows
      ∙ (λ i. (user_counted bytes row.name ∙ sym (length-map (changed_files V along loaded now row.name) (pair_of row))) i + rows_counted bytes rows i)
      ∙ sym (length-append (pairs_of row) (flat_map pairs_of rows))

  pub all_counted : AreBytes V → sum_by (λ (row : PasswdRow). counted V along loaded now row.name) (users_of_both loaded now) ≡ length (changed_pairs V along loaded now)
  all_counted bytes = rows_counted bytes (users_of_both loaded now)
