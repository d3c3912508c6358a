-- For inner functions of `gains`: no public contract names these definitions.
use Rattle.std.specs.Prelude.{◌≡◌, ℕ, ◌&&◌, Bool, if◌then◌else◌, List, [], ◌∷◌, ◌++◌, map, slice_get, Option, Some, None, is_some, option_and_then}
use Rattle.std.specs.List.{AllByRecursion, flat_map}
use Rattle.acl_names.specs.Paths.{PathOf}
use Rattle.facl_answers.specs.Answers.{line}
use Rattle.facl_counts.specs.CountTexts.{count_text, spaced}
use Rattle.facl_counts.specs.GainsText.{is_change, is_same, is_same_side, side_of, side_text, number_of_sides, lines_up_to, lines_by_sides}
use Rattle.facl_answers.specs.Inner.{Placed, placed_of, keeps_place}
use Rattle.facl_answers.specs.BothStates.{AreClassesOf, BothClassed, RowsOfFile, Sides, rows_of_key}
use Rattle.path_classes.specs.Tallies.{Tallied, SaysAs, one, count_where, first_where}
use Rattle.facl_counts.specs.declared.tallies.Tally.{Tally}
use Rattle.facl_counts.specs.declared.user_gains.GivenRow.{GivenRow}
use Rattle.facl_counts.specs.declared.user_gains.UserGains.{UserGains}

-- ---- counts of files by classes

-- these are the files, with a key whose classes have their rows
abbrev pub AreKeysOf : (before after : List (List ℕ)) → List (Tallied Sides) → List (PathOf × RowsOfFile) → Type 0
AreKeysOf before after [] [] = Unit {0}
AreKeysOf before after [] (file ∷ files) = ⊥
AreKeysOf before after (key ∷ keys) [] = ⊥
AreKeysOf before after (key ∷ keys) (file ∷ files) = ((key ≡ one key.key file.0) × AreClassesOf before after key.key file.1) × AreKeysOf before after keys files

-- files are counted by classes that have their rows
pub record AreCounted (both : BothClassed) (tallies : List (Tallied Sides)) (files : List (PathOf × RowsOfFile)) : Type 0 where
  pub keys : List (Tallied Sides)
  pub says : SaysAs tallies keys
  pub are : AreKeysOf both.0.0 both.1.0 keys files

-- ---- changes of users

-- what a row grants the user at a place, if both are there
abbrev pub verdict_given : Option (List ℕ) → Option ℕ → Option ℕ
verdict_given row place = option_and_then (λ cells. option_and_then (slice_get cells) place) row

abbrev pub cells_of_both : (places : Sides) → RowsOfFile → Sides
cells_of_both places rows = (verdict_given rows.0 places.0, verdict_given rows.1 places.1)

-- the row that is given, if the file is there
abbrev pub row_given : GivenRow → Option (List ℕ)
row_given given = if given.is_there then Some given.row.now else None

-- a file is there before and after, with one row
abbrev pub RowStays : RowsOfFile → Type 0
RowStays rows = (row : List ℕ) × (rows ≡ (Some row, Some row))

-- whether a user has the same place in both states, or none in both
abbrev pub keeps : UserGains → Bool
keeps entry = keeps_place entry.user

-- the change of a file with these rows for the user at these places, if it is one
abbrev pub change_of : (places : Sides) → RowsOfFile → Option Sides
change_of places rows =
    if is_change (is_some rows.0 && is_some rows.1) (cells_of_both places rows) then Some (cells_of_both places rows) else None

-- no user has a change on a file with these rows
abbrev pub AreSilentOn : RowsOfFile → List UserGains → Type 0
AreSilentOn rows users = AllByRecursion (λ user. change_of (user.user.before, user.user.after) rows ≡ None) users

-- `count` files with a key, of which `first` is the first; none where there is no key
abbrev pub keyed : {K : Type 0} → Option K → (count : ℕ) → (first : PathOf) → List (Tallied K)
keyed None count first = []
keyed (Some key) count first = record { key = key; count = count; first = first } ∷ []

-- counts by other keys, of those that have one
abbrev pub rekeyed : {K L : Type 0} → (K → Option L) → List (Tallied K) → List (Tallied L)
rekeyed key_of [] = []
rekeyed key_of (t ∷ ts) = keyed (key_of t.key) t.count t.first ++ rekeyed key_of ts

-- each file that is a change for the user at these places, with the change
abbrev pub changes_of : (places : Sides) → List (PathOf × RowsOfFile) → List (Tallied Sides)
changes_of places files = flat_map (λ file. keyed (change_of places file.1) 1 file.0) files

-- a user with counts
abbrev pub Gained : Type 0
Gained = Placed × List (Tallied Sides)

abbrev pub gained_of : UserGains → Gained
gained_of entry = (placed_of entry.user, entry.tallies)

-- something holds of each two elements at one place of two lists of one length
abbrev pub AllOfBoth : {A B : Type 0} → (A → B → Type 0) → List A → List B → Type 0
AllOfBoth P [] [] = Unit {0}
AllOfBoth P [] (y ∷ ys) = ⊥
AllOfBoth P (x ∷ xs) [] = ⊥
AllOfBoth P (x ∷ xs) (y ∷ ys) = P x y × AllOfBoth P xs ys

-- a user's counts have `count` files more with these rows
abbrev pub IsCountedFor : RowsOfFile → (count : ℕ) → (first : PathOf) → (old new : Gained) → Type 0
IsCountedFor rows count first old new =
    (new.0 ≡ old.0) × ((others : List (Tallied Sides)) → SaysAs old.1 others → SaysAs new.1 (others ++ keyed (change_of old.0.1 rows) count first))

-- the same for each user
abbrev pub AreCountedFor : RowsOfFile → (count : ℕ) → (first : PathOf) → (old new : List UserGains) → Type 0
AreCountedFor rows count first old new = AllOfBoth (IsCountedFor rows count first) (map gained_of old) (map gained_of new)

-- a user's counts have those of other counts, by the changes of their classes
abbrev pub IsPassed : BothClassed → List (Tallied Sides) → (old new : Gained) → Type 0
IsPassed both tallies old new =
    (new.0 ≡ old.0) × ((others : List (Tallied Sides)) → SaysAs old.1 others → SaysAs new.1 (others ++ rekeyed (λ key. change_of old.0.1 (rows_of_key both key)) tallies))

-- the same for each user
abbrev pub ArePassed : BothClassed → List (Tallied Sides) → (old new : List UserGains) → Type 0
ArePassed both tallies old new = AllOfBoth (IsPassed both tallies) (map gained_of old) (map gained_of new)

-- a user's counts have the changes of some files more
abbrev pub HasChanges : List (PathOf × RowsOfFile) → (old new : Gained) → Type 0
HasChanges files old new = (new.0 ≡ old.0) × ((others : List (Tallied Sides)) → SaysAs old.1 others → SaysAs new.1 (others ++ changes_of old.0.1 files))

-- the same for each user
abbrev pub HaveChanges : List (PathOf × RowsOfFile) → (old new : List UserGains) → Type 0
HaveChanges files old new = AllOfBoth (HasChanges files) (map gained_of old) (map gained_of new)

-- ---- lines

-- a line
abbrev pub count_line : Sides → (count : ℕ) → (user path : List ℕ) → List ℕ
count_line sides count user path =
    (spaced (side_text sides.0) ++ spaced (side_text sides.1)) ++ (count_text count user ++ line path)

-- that of `count` files, of which `first` is the first; nothing where there are none
abbrev pub counted_line : (text_of : PathOf → List ℕ) → (user : List ℕ) → Sides → ℕ → Option PathOf → List ℕ
counted_line text_of user sides count None = []
counted_line text_of user sides count (Some first) = count_line sides count user (text_of first)

-- whether a count has this side before
abbrev pub is_before : Option ℕ → Tally → Bool
is_before before tally = is_same_side before tally.key.0

module _ (text_of : PathOf → List ℕ) (user : List ℕ) (tallies : List (Tallied Sides)) where
  -- a user's line of a change
  abbrev pub tally_line : Sides → List ℕ
  tally_line sides = counted_line text_of user sides (count_where (is_same sides) tallies) (first_where (is_same sides) tallies)

  -- a user's lines of the changes with this side before
  abbrev pub lines_after : Option ℕ → List ℕ
  lines_after before = lines_up_to (λ after. tally_line (before, side_of after)) number_of_sides

  -- a user's lines
  abbrev pub tally_lines : List ℕ
  tally_lines = lines_by_sides tally_line

-- the lines of a user with counts
abbrev pub lines_of_user : (text_of : PathOf → List ℕ) → UserGains → List ℕ
lines_of_user text_of gains = tally_lines text_of gains.user.name.items gains.tallies
