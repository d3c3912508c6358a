-- The files of two states with their rows, one after another.
use Rattle.std.proofs.Common.{◌≡◌, ℕ, suc, arith, cond, false, List, [], ◌∷◌, map, length, Option, Some, None, Less, Equal, Greater, refl, sym, ap, subst, ◌∙◌}
use Rattle.std.specs.Prelude.{option_map}
use Rattle.std.specs.Ordering.{is_eq}
use Rattle.std.specs.FinMap.{find}
use Rattle.std.proofs.lemmas.Cmp.{tied_itself}
use Rattle.acl_names.specs.Below.{encloses}
use Rattle.acl_names.specs.Paths.{PathOf, path_cmp}
use Rattle.acl_names.proofs.PathOrder.{path_total, exact_paths}
use Rattle.path_map.specs.Entries.{first, IsInOrder}
use Rattle.path_map.specs.Inner.{After}
use Rattle.path_map.specs.Merged.{put_all}
use Rattle.path_map.proofs.Merges.{later_after, put_at_end, put_before, put_over, put_after}
use Rattle.path_map.proofs.Places.{above, below}
use Rattle.path_classes.specs.Classes.{Classed, KeepRows, IsFileTaken}
use Rattle.path_classes.specs.Rows.{Rows}
use Rattle.facl_answers.specs.BothStates.{AreClassesOf, BothClassed, IsClassOf, IsTaken, RowsOfFile, TakesNext, TakesNextWithin, next_path_of, path_order, rows_of_both}
use Rattle.facl_answers.specs.BothStates.{Sides, front, row_of_class, rows_of_key}
use Rattle.facl_answers.proofs.AfterPaths.{after_put_all, after_later, rest_in_order}

-- ---- the row of a path

abbrev Row : Type 0
Row = PathOf × List ℕ

row_here : (row : Row) (rows : Rows) (p : PathOf) → path_cmp p row.0 ≡ Equal → find path_cmp p (row ∷ rows) ≡ Some row.1
row_here row rows p same = ap (λ o. cond (is_eq o) (Some row.1) (find path_cmp p rows)) same

row_later : (row : Row) (rows : Rows) (p : PathOf) → path_cmp row.0 p ≡ Less → find path_cmp p (row ∷ rows) ≡ find path_cmp p rows
row_later row rows p lt = ap (λ o. cond (is_eq o) (Some row.1) (find path_cmp p rows)) (above row.0 p lt)

row_nowhere : (rows : Rows) (p : PathOf) → After p rows → find path_cmp p rows ≡ None
row_nowhere [] p h = refl
row_nowhere (row ∷ rows) p h = ap (λ o. cond (is_eq o) (Some row.1) (find path_cmp p rows)) h.0 ∙ row_nowhere rows p h.1

-- ---- the first file of both

abbrev file_at : (before after : Rows) → Row → PathOf × RowsOfFile
file_at before after row = (row.0, (find path_cmp row.0 before, find path_cmp row.0 after))

-- files after a path have the rows that they have among what is left of both
same_files : (q : PathOf) (before after before' after' rows : Rows) → After q rows
    → ((p : PathOf) → path_cmp q p ≡ Less → find path_cmp p before ≡ find path_cmp p before') → ((p : PathOf) → path_cmp q p ≡ Less → find path_cmp p after ≡ find path_cmp p after')
    → map (file_at before after) rows ≡ map (file_at before' after') rows
same_files q before after before' after' [] h b a = refl
same_files q before after before' after' (row ∷ rows) h b a =
    let more = same_files q before after before' after' rows h.1 b a in
    λ i. (row.0, (b row.0 h.0 i, a row.0 h.0 i)) ∷ more i

gone_first : (old : Row) (before after : Rows) → IsInOrder (old ∷ before) → IsInOrder after → After old.0 after → put_all after (old ∷ before) ≡ old ∷ put_all after before
    → rows_of_both (old ∷ before) after ≡ (old.0, (Some old.1, None)) ∷ rows_of_both before after
gone_first old before after ob oa far all =
    let rest = same_files old.0 (old ∷ before) after before after (put_all after before) (after_put_all old.0 after before far (later_after old before ob))
    (λ p lt. row_later old before p lt) (λ p lt. refl) in
    ap (map (file_at (old ∷ before) after)) all
    ∙ (λ i. (old.0, (row_here old before old.0 (tied_itself path_total old.0) i, row_nowhere after old.0 far i)) ∷ rest i)

new_first : (new : Row) (before after : Rows) → IsInOrder before → IsInOrder (new ∷ after) → After new.0 before → put_all (new ∷ after) before ≡ new ∷ put_all after before
    → rows_of_both before (new ∷ after) ≡ (new.0, (None, Some new.1)) ∷ rows_of_both before after
new_first new before after ob oa far all =
    let rest = same_files new.0 before (new ∷ after) before after (put_all after before) (after_put_all new.0 after before (later_after new after oa) far)
    (λ p lt. refl) (λ p lt. row_later new after p lt) in
    ap (map (file_at before (new ∷ after))) all
    ∙ (λ i. (new.0, (row_nowhere before new.0 far i, row_here new after new.0 (tied_itself path_total new.0) i)) ∷ rest i)

kept_first : (old new : Row) (before after : Rows) → IsInOrder (old ∷ before) → IsInOrder (new ∷ after) → path_cmp old.0 new.0 ≡ Equal
    → rows_of_both (old ∷ before) (new ∷ after) ≡ (new.0, (Some old.1, Some new.1)) ∷ rows_of_both before after
kept_first old new before after ob oa same =
    let path : old.0 ≡ new.0 = exact_paths old.0 new.0 same in
    let back : path_cmp new.0 old.0 ≡ Equal = subst (λ p. path_cmp new.0 p ≡ Equal) (sym path) (tied_itself path_total new.0) in
    let all = put_over new after old before oa back in
    let far : After new.0 before = subst (λ p. After p before) path (later_after old before ob) in
    let rest = same_files new.0 (old ∷ before) (new ∷ after) before after (put_all after before) (after_put_all new.0 after before (later_after new after oa) far)
    (λ p lt. row_later old before p (subst (λ q. path_cmp q p ≡ Less) (sym path) lt)) (λ p lt. row_later new after p lt) in
    ap (map (file_at (old ∷ before) (new ∷ after))) all
    ∙ (λ i. (new.0, (row_here old before new.0 back i, row_here new after new.0 (tied_itself path_total new.0) i)) ∷ rest i)

abbrev next_path : Rows → Option PathOf
next_path rows = option_map (λ row. row.0) (first rows)

gone_rows : (old : Row) (before after : Rows) → IsInOrder (old ∷ before) → IsInOrder after → path_order (Some old.0) (next_path after) ≡ Some Less
    → rows_of_both (old ∷ before) after ≡ (old.0, (Some old.1, None)) ∷ rows_of_both before after
gone_rows old before [] ob oa is = gone_first old before [] ob oa tt refl
gone_rows old before (new ∷ after) ob oa is =
    let lt : path_cmp old.0 new.0 ≡ Less = cc in
    gone_first old before (new ∷ after) ob oa (lt, after_later old.0 new.0 after lt (later_after new after oa)) (put_after new after old before oa (above old.0 new.0 lt))

new_rows : (new : Row) (before after : Rows) → IsInOrder before → IsInOrder (new ∷ after) → path_order (next_path before) (Some new.0) ≡ Some Greater
    → rows_of_both before (new ∷ after) ≡ (new.0, (None, Some new.1)) ∷ rows_of_both before after
new_rows new [] after ob oa is = new_first new [] after ob oa tt (put_at_end new after oa)
new_rows new (old ∷ before) after ob oa is =
    let gt : path_cmp old.0 new.0 ≡ Greater = cc in
    let lt = below old.0 new.0 gt in
    new_first new (old ∷ before) after ob oa (lt, after_later new.0 old.0 before lt (later_after old before ob)) (put_before new after old before oa lt)

-- ---- the next file

some_length : {A : Type 0} (x : A) (all rest : List A) → all ≡ x ∷ rest → length all ≡ suc (length rest)
some_length x all rest is = ap length is

rest_order : (row : Row) (all rest : Rows) → all ≡ row ∷ rest → IsInOrder all → IsInOrder rest
rest_order row all rest is order = rest_in_order row rest (subst IsInOrder is order)

kept_rows : (all : List (List ℕ)) → KeepRows all all
kept_rows all class row is = is

pub gone_taken : (old new after : Classed) (path : PathOf) (class : ℕ) → IsInOrder old.1 → IsInOrder after.1 → path_order (next_path_of old) (next_path_of after) ≡ Some Less
    → IsFileTaken old (path, class) new → IsTaken (old, after) (path, (Some class, None)) (new, after)
gone_taken old new after path class ob oa is taken =
    let row : Row = (path, taken.row) in
    let longer = some_length row old.1 new.1 taken.first in
    record {
      rows = (Some taken.row, None);
      is =
          ap (λ rows. rows_of_both rows after.1) taken.first
          ∙ gone_rows row new.1 after.1 (subst IsInOrder taken.first ob) oa (subst (λ rows. path_order (next_path rows) (next_path after.1) ≡ Some Less) taken.first is);
      has = (taken.has, tt);
      keep_before = taken.keep;
      keep_after = kept_rows after.0;
      before_order = rest_order row old.1 new.1 taken.first ob;
      after_order = oa;
      fewer = omega (arith, longer);
    }

pub new_taken : (before old new : Classed) (path : PathOf) (class : ℕ) → IsInOrder before.1 → IsInOrder old.1 → path_order (next_path_of before) (next_path_of old) ≡ Some Greater
    → IsFileTaken old (path, class) new → IsTaken (before, old) (path, (None, Some class)) (before, new)
new_taken before old new path class ob oa is taken =
    let row : Row = (path, taken.row) in
    let longer = some_length row old.1 new.1 taken.first in
    record {
      rows = (None, Some taken.row);
      is =
          ap (λ rows. rows_of_both before.1 rows) taken.first
          ∙ new_rows row before.1 new.1 ob (subst IsInOrder taken.first oa) (subst (λ rows. path_order (next_path before.1) (next_path rows) ≡ Some Greater) taken.first is);
      has = (tt, taken.has);
      keep_before = kept_rows before.0;
      keep_after = taken.keep;
      before_order = ob;
      after_order = rest_order row old.1 new.1 taken.first oa;
      fewer = omega (arith, longer);
    }

pub kept_taken : (old_before new_before old_after new_after : Classed) (path other : PathOf) (was is : ℕ) → IsInOrder old_before.1 → IsInOrder old_after.1
    → path_order (next_path_of old_before) (next_path_of old_after) ≡ Some Equal
    → IsFileTaken old_before (path, was) new_before → IsFileTaken old_after (other, is) new_after → IsTaken (old_before, old_after) (other, (Some was, Some is)) (new_before, new_after)
kept_taken old_before new_before old_after new_after path other was is ob oa order left right =
    let old : Row = (path, left.row) in
    let new : Row = (other, right.row) in
    let longer_before = some_length old old_before.1 new_before.1 left.first in
    let longer_after = some_length new old_after.1 new_after.1 right.first in
    let known : path_order (Some path) (Some other) ≡ Some Equal = sym (λ i. path_order (next_path (left.first i)) (next_path (right.first i))) ∙ order in
    let same : path_cmp path other ≡ Equal = cc in
    record {
      rows = (Some left.row, Some right.row);
      is =
          (λ i. rows_of_both (left.first i) (right.first i))
          ∙ kept_first old new new_before.1 new_after.1 (subst IsInOrder left.first ob) (subst IsInOrder right.first oa) same;
      has = (left.has, right.has);
      keep_before = left.keep;
      keep_after = right.keep;
      before_order = rest_order old old_before.1 new_before.1 left.first ob;
      after_order = rest_order new old_after.1 new_after.1 right.first oa;
      fewer = omega (arith, longer_before, longer_after);
    }

-- ---- the rows of a key

class_row : (rows : List (List ℕ)) (class : Option ℕ) (row : Option (List ℕ)) → IsClassOf rows class row → row_of_class rows class ≡ row
class_row rows None None h = refl
class_row rows None (Some row) h = absurd h
class_row rows (Some class) None h = absurd h
class_row rows (Some class) (Some row) h = h

pub key_rows : (both : BothClassed) (key : Sides) (rows : RowsOfFile) → AreClassesOf both.0.0 both.1.0 key rows → rows_of_key both key ≡ rows
key_rows both key rows has i = (class_row both.0.0 key.0 rows.0 has.0 i, class_row both.1.0 key.1 rows.1 has.1 i)

-- ---- the next file, if it is at or below a path

pub over_within : (top : PathOf) (old new : BothClassed) → TakesNext old None new → TakesNextWithin top old None new
over_within top old new over = (
  ap (front top) over.0,
  (subst (λ (both : BothClassed). KeepRows old.0.0 both.0.0) (sym over.1) (kept_rows old.0.0), subst (λ (both : BothClassed). KeepRows old.1.0 both.1.0) (sym over.1) (kept_rows old.1.0)),
)

pub passed_within : (top path : PathOf) (key : Sides) (old new : BothClassed) → encloses top path ≡ false → IsTaken old (path, key) new → TakesNextWithin top old None new
passed_within top path key old new apart taken =
    (ap (front top) taken.is ∙ ap (λ b. cond b ((path, taken.rows) ∷ front top (rows_of_both new.0.1 new.1.1)) []) apart, (taken.keep_before, taken.keep_after))
