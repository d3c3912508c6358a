-- The files of two states at some paths or below them are all of a text, where the others have no part in it.
use Rattle.std.proofs.Common.{◌≡◌, ℕ, suc, ◌+◌, ◌<◌, Bool, true, false, cond, not, List, [], ◌∷◌, ◌++◌, append_assoc, drop}
use Rattle.std.proofs.Common.{drop-cons, get_or, length, map, filter, take, Option, Some, None, Less, IsTrue, refl, sym, ap, subst, ◌∙◌}
use Rattle.std.specs.Prelude.{option_and_then, unwrap_or, if◌then◌else◌}
use Rattle.std.specs.List.{flat_map, list_all}
use Rattle.std.specs.Option.{option_or}
use Rattle.std.specs.Ordering.{is_gt, is_lt}
use Rattle.std.specs.FinMap.{find, is_sorted}
use Rattle.std.specs.FinMap.Entries.{below_all}
use Rattle.std.proofs.lemmas.Bool.{and_parts}
use Rattle.std.proofs.lemmas.List.{take_more, take-append-drop}
use Rattle.std.proofs.lemmas.List.Concat.{flat_map-append}
use Rattle.acl_names.specs.Below.{encloses}
use Rattle.acl_names.specs.Paths.{path_cmp, PathOf}
use Rattle.acl_names.proofs.Below.{early_not_within, convex}
use Rattle.acl_names.proofs.Basics.{is_less, not_both}
use Rattle.path_map.specs.Below.{from, within}
use Rattle.path_map.specs.Entries.{IsInOrder}
use Rattle.path_map.specs.Merged.{put_all}
use Rattle.path_map.proofs.Merges.{in_order-put_all}
use Rattle.path_map.proofs.Rows.{find_put_all}
use Rattle.acl_tree.specs.State.{State}
use Rattle.path_classes.specs.ClassesWithin.{AreTops, inside, is_inside}
use Rattle.path_classes.specs.Rows.{Rows}
use Rattle.path_classes.proofs.FoundWithin.{inside_none, none_taken}
use Rattle.path_classes.proofs.Tops.{inside_more, tops_parts}
use Rattle.path_classes.proofs.Maps.{find-filter, map_filter, same_found}
use Rattle.acl_rights.specs.Outside.{is_outside, SameOutside}
use Rattle.acl_rights.specs.Rows.{Verdict}
use Rattle.acl_rights.specs.Verdicts.{rows_granted}
use Rattle.facl_answers.specs.declared.placed_users.PlacedUser.{PlacedUser}
use Rattle.facl_answers.specs.BothStates.{RowsOfFile, front, rows_at, rows_of_both}
use Rattle.facl_answers.specs.Inner.{keeps_place, lines_between, lines_of_file, lines_of_files}
use Rattle.facl_answers.proofs.BothLines.{same_rows}
use Rattle.facl_answers.proofs.ChangeLines.{paths, order_by_paths, rows_order}

-- ---- what passes is found as before

passes : {A : Type 0} (b : Bool) (o : Option A) → b ≡ true → option_and_then (λ a. if b then Some a else None) o ≡ o
passes b None is = refl
passes b (Some a) is = ap (λ c. if c then Some a else None) is

passes_or : {A : Type 0} (b : Bool) (o q : Option A)
    → option_or (option_and_then (λ a. if b then Some a else None) o) (option_and_then (λ a. if b then Some a else None) q) ≡ option_and_then (λ a. if b then Some a else None) (option_or o q)
passes_or b None q = refl
passes_or true (Some a) q = refl
passes_or false (Some a) None = refl
passes_or false (Some a) (Some c) = refl

-- ---- the first files of those from a path on

none_within : {A : Type 0} (top q : PathOf) (files : List (PathOf × A)) → is_gt (path_cmp top q) ≡ false → encloses top q ≡ false → IsTrue (below_all path_cmp q files) → within top files ≡ []
none_within top q [] le apart h = refl
none_within {A = A} top q (file ∷ files) le apart h =
    let parts = and_parts (is_lt (path_cmp q file.0)) (below_all path_cmp q files) h in
    ap (λ b. cond b (file ∷ within top files) (within top files)) (off (encloses top file.0) refl (is_less (path_cmp q file.0) parts.0)) ∙ none_within top q files le apart parts.1
  where
    off : (b : Bool) → encloses top file.0 ≡ b → path_cmp q file.0 ≡ Less → encloses top file.0 ≡ false
    off false is lt = is
    off true is lt = absurd (not_both (encloses top q) (convex top q file.0 le lt is) apart)

pub front_within : {A : Type 0} (top : PathOf) (files : List (PathOf × A)) → IsInOrder files → front top (from top files) ≡ within top files
front_within top [] order = refl
front_within {A = A} top (file ∷ files) order =
    let parts = and_parts (below_all path_cmp file.0 files) (is_sorted path_cmp files) order in
    by (is_gt (path_cmp top file.0)) refl (encloses top file.0) refl (front_within top files parts.1) parts.0
  where
    by : (b : Bool) → is_gt (path_cmp top file.0) ≡ b → (c : Bool) → encloses top file.0 ≡ c → front top (from top files) ≡ within top files → IsTrue (below_all path_cmp file.0 files)
        → front top (cond (not b) (file ∷ from top files) (from top files)) ≡ cond c (file ∷ within top files) (within top files)
    by true is true holds more after = absurd (not_both (encloses top file.0) holds (early_not_within top file.0 is))
    by true is false apart more after = more
    by false is true holds more after = ap (λ c. cond c (file ∷ front top (from top files)) []) holds ∙ ap (λ l. file ∷ l) more
    by false is false apart more after = ap (λ c. cond c (file ∷ front top (from top files)) []) apart ∙ sym (none_within top file.0 files is apart after)

-- ---- the files of both from a path on

-- a file with its rows
abbrev pub file_at : (before after : Rows) → PathOf × List ℕ → PathOf × RowsOfFile
file_at before after row = (row.0, (find path_cmp row.0 before, find path_cmp row.0 after))

file_paths : (before after rows : Rows) → paths (map (file_at before after) rows) ≡ paths rows
file_paths before after [] = refl
file_paths before after (row ∷ rows) = ap (λ l. row.0 ∷ l) (file_paths before after rows)

module _ (top : PathOf) where
  abbrev is_left : {A : Type 0} → PathOf × A → Bool
  is_left e = not (is_gt (path_cmp top e.0))

  from_put : (ps es : Rows) → IsInOrder ps → IsInOrder es → put_all (from top ps) (from top es) ≡ from top (put_all ps es)
  from_put ps es h k =
      same_found (put_all (from top ps) (from top es)) (from top (put_all ps es)) (in_order-put_all (from top ps) (from top es) (map_filter is_left es k))
      (map_filter is_left (put_all ps es) (in_order-put_all ps es k))
      (λ p.
      find_put_all p (from top ps) (from top es) (map_filter is_left ps h)
      ∙ (λ i. option_or (find-filter is_left p ps h i) (find-filter is_left p es k i))
      ∙ passes_or (not (is_gt (path_cmp top p))) (find path_cmp p ps) (find path_cmp p es)
      ∙ ap (option_and_then (λ (a : List ℕ). if not (is_gt (path_cmp top p)) then Some a else None)) (sym (find_put_all p ps es h))
      ∙ sym (find-filter is_left p (put_all ps es) (in_order-put_all ps es k)))

  module _ (before after : Rows) (before_order : IsInOrder before) (after_order : IsInOrder after) where
    files_from : (rows : Rows) → map (file_at (from top before) (from top after)) (from top rows) ≡ from top (map (file_at before after) rows)
    files_from [] = refl
    files_from (row ∷ rows) = by (is_gt (path_cmp top row.0)) refl (files_from rows)
      where
        by : (b : Bool) → is_gt (path_cmp top row.0) ≡ b → map (file_at (from top before) (from top after)) (from top rows) ≡ from top (map (file_at before after) rows)
            → map (file_at (from top before) (from top after)) (cond (not b) (row ∷ from top rows) (from top rows))
            ≡ cond (not b) (file_at before after row ∷ from top (map (file_at before after) rows)) (from top (map (file_at before after) rows))
        by true is more = more
        by false is more =
            let was = find-filter is_left row.0 before before_order ∙ passes (not (is_gt (path_cmp top row.0))) (find path_cmp row.0 before) (ap not is) in
            let now = find-filter is_left row.0 after after_order ∙ passes (not (is_gt (path_cmp top row.0))) (find path_cmp row.0 after) (ap not is) in
            λ i. (row.0, (was i, now i)) ∷ more i

    pub files_order : IsInOrder (rows_of_both before after)
    files_order =
        subst (λ b. b ≡ true) (sym (order_by_paths (rows_of_both before after) (put_all after before) (file_paths before after (put_all after before))))
        (in_order-put_all after before before_order)

    -- those that come first are those of the part
    pub front_is : front top (rows_of_both (from top before) (from top after)) ≡ within top (rows_of_both before after)
    front_is =
        ap (front top) (ap (map (file_at (from top before) (from top after))) (from_put after before after_order before_order) ∙ files_from (put_all after before))
        ∙ front_within top (rows_of_both before after) files_order

pub from_order : (top : PathOf) (rows : Rows) → IsInOrder rows → IsInOrder (from top rows)
from_order top rows order = map_filter (λ e. not (is_gt (path_cmp top e.0))) rows order

-- ---- top by top

module _ (tops : List PathOf) (at : ℕ) (top d : PathOf) (lt : at < length tops) (is : top ≡ get_or tops at d) where
  cut : tops ≡ take at tops ++ top ∷ drop (suc at) tops
  cut = sym (take-append-drop at tops) ∙ ap (λ l. take at tops ++ l) (drop-cons tops at d lt ∙ ap (λ p. p ∷ drop (suc at) tops) (sym is))

  pub one_inside : {A : Type 0} → AreTops tops → (files : List (PathOf × A)) → IsInOrder files → inside (take at tops) files ++ within top files ≡ inside (take (at + 1) tops) files
  one_inside are files order =
      sym (inside_more (take at tops) top (tops_parts (take at tops) top (drop (suc at) tops) (subst AreTops cut are)).0 files order)
      ∙ ap (λ ts. inside ts files) (ap (λ p. take at tops ++ p ∷ []) is ∙ sym (take_more tops at d lt))

pub none_inside : {A : Type 0} (tops : List PathOf) (files : List (PathOf × A)) → inside (take 0 tops) files ≡ []
none_inside tops files = ap (λ ts. inside ts files) (none_taken tops) ∙ inside_none files

-- all files are at the root or below it
pub within_root : {A : Type 0} (top : PathOf) (files : List (PathOf × A)) → top ≡ [] → within top files ≡ files
within_root top files root = ap (λ t. within t files) root ∙ all files
  where
    all : {A : Type 0} (files : List (PathOf × A)) → within [] files ≡ files
    all [] = refl
    all (file ∷ files) = ap (λ l. file ∷ l) (all files)

-- the lines of some files are added, and those of more
pub lines_more : (users : List PlacedUser) (text_of : PathOf → List ℕ) (start some all : List ℕ) (files more : List (PathOf × RowsOfFile)) → some ≡ start ++ lines_of_files users text_of files
    → all ≡ some ++ lines_of_files users text_of more → all ≡ start ++ lines_of_files users text_of (files ++ more)
lines_more users text_of start some all files more first second =
    second ∙ ap (λ l. l ++ lines_of_files users text_of more) first
    ∙ append_assoc start (lines_of_files users text_of files) (lines_of_files users text_of more)
    ∙ ap (λ l. start ++ l) (sym (flat_map-append (lines_of_file users text_of) files more))

-- ---- files that have no part in a text

module _ {C : Type 0} (part_of : PathOf × RowsOfFile → List C) (before after : Rows) where
  pub parts_inside : (tops : List PathOf) → ((p : PathOf) → is_inside tops p ≡ false → part_of (p, (find path_cmp p before, find path_cmp p after)) ≡ [])
      → (rows : Rows) → flat_map part_of (inside tops (map (file_at before after) rows)) ≡ flat_map part_of (map (file_at before after) rows)
  parts_inside tops silent [] = refl
  parts_inside tops silent (row ∷ rows) = by (is_inside tops row.0) refl (parts_inside tops silent rows)
    where
      files : List (PathOf × RowsOfFile)
      files = map (file_at before after) rows

      by : (b : Bool) → is_inside tops row.0 ≡ b → flat_map part_of (inside tops files) ≡ flat_map part_of files
          → flat_map part_of (cond b (file_at before after row ∷ inside tops files) (inside tops files)) ≡ part_of (file_at before after row) ++ flat_map part_of files
      by true is more = ap (λ l. part_of (file_at before after row) ++ l) more
      by false is more = more ∙ sym (ap (λ l. l ++ flat_map part_of files) (silent row.0 is))

-- ---- where rows are the same outside a part

module _ (V : Verdict) (along : Bool) (loaded now : State) (before_order : IsInOrder loaded.tree.files) (after_order : IsInOrder now.tree.files) where
  abbrev pub rows_before : Rows
  rows_before = rows_granted V along loaded

  abbrev pub rows_after : Rows
  rows_after = rows_granted V along now

  pub row_stays : (top : List PathOf) → SameOutside V top loaded now → (p : PathOf) → is_outside top p ≡ true → find path_cmp p rows_before ≡ find path_cmp p rows_after
  row_stays top same p apart =
      sym (find-filter (λ e. is_outside top e.0) p rows_before (rows_order V along loaded before_order) ∙ passes (is_outside top p) (find path_cmp p rows_before) apart)
      ∙ ap (find path_cmp p) (same along)
      ∙ (find-filter (λ e. is_outside top e.0) p rows_after (rows_order V along now after_order) ∙ passes (is_outside top p) (find path_cmp p rows_after) apart)

  pub no_lines_outside : (users : List PlacedUser) (text_of : PathOf → List ℕ) → list_all keeps_place users ≡ true → (top : List PathOf) → SameOutside V top loaded now
      → (p : PathOf) → is_outside top p ≡ true → lines_of_file users text_of (p, rows_at V along loaded now p) ≡ []
  no_lines_outside users text_of keep top same p apart =
      let row : List ℕ = unwrap_or (find path_cmp p rows_after) [] in
      ap (λ (o : Option (List ℕ)). lines_between users (text_of p) (unwrap_or o []) row) (row_stays top same p apart) ∙ same_rows users keep (text_of p) row

-- ---- all files are at the root or below it

none_passes : {A : Type 0} (es : List A) → filter (λ e. false) es ≡ []
none_passes [] = refl
none_passes (e ∷ es) = none_passes es

pub same_outside_root : (V : Verdict) (top : PathOf) (loaded now : State) → top ≡ [] → SameOutside V (top ∷ []) loaded now
same_outside_root V top loaded now root =
    subst (λ (t : PathOf). SameOutside V (t ∷ []) loaded now) (sym root) (λ along. none_passes (rows_granted V along loaded) ∙ sym (none_passes (rows_granted V along now)))
