-- Where no user has a change outside a part of the tree, the changes of the part's files are those of all files.
use Rattle.std.proofs.Common.{◌≡◌, ◌+◌, Bool, true, false, List, [], ◌∷◌, ◌++◌, append-nil, append_assoc, refl, sym, ap, subst, ◌∙◌}
use Rattle.std.specs.Prelude.{Result, Ok, Err, OnOk}
use Rattle.std.specs.List.{list_all}
use Rattle.std.specs.Option.{option_or}
use Rattle.std.specs.FinMap.{find}
use Rattle.std.proofs.lemmas.Bool.{and_parts}
use Rattle.std.proofs.lemmas.List.Concat.{flat_map-append}
use Rattle.acl_names.specs.Paths.{PathOf, path_cmp}
use Rattle.acl_tree.specs.State.{State}
use Rattle.path_map.specs.Entries.{IsInOrder}
use Rattle.path_map.specs.Merged.{put_all}
use Rattle.path_classes.specs.ClassesWithin.{inside, is_inside}
use Rattle.path_classes.specs.Rows.{Rows}
use Rattle.acl_rights.specs.Outside.{is_outside, SameOutside}
use Rattle.acl_rights.specs.Rows.{Verdict}
use Rattle.acl_rights.specs.Verdicts.{rows_granted}
use Rattle.facl_answers.specs.BothStates.{BothClassed, RowsOfFile, Sides, rows_at, rows_in_both, rows_of_key}
use Rattle.facl_answers.proofs.BothRows.{key_rows}
use Rattle.facl_answers.proofs.PartRows.{parts_inside, row_stays}
use Rattle.facl_answers.specs.Inner.{Placed}
use Rattle.facl_counts.specs.InnerGains.{AreCounted, AreKeysOf, ArePassed, AreSilentOn, HaveChanges}
use Rattle.facl_counts.specs.InnerGains.{change_of, changes_of, keeps, keyed, rekeyed}
use Rattle.path_classes.specs.Tallies.{Tallied, SaysAs, count_where, first_where}
use Rattle.facl_counts.specs.declared.user_gains.UserGains.{UserGains}
use Rattle.facl_counts.proofs.Rekeyed.{says_rekeyed}
use Rattle.path_classes.proofs.Tallies.{count_append, first_append}
use Rattle.facl_counts.proofs.Tallying.{says_both}
use Rattle.facl_counts.proofs.UserChanges.{unchanged}

-- ---- counts of files by their rows

module _ (places : Sides) where
  changes_counted : (both : BothClassed) (keys : List (Tallied Sides)) (files : List (PathOf × RowsOfFile)) → AreKeysOf both.0.0 both.1.0 keys files
      → rekeyed (λ key. change_of places (rows_of_key both key)) keys ≡ changes_of places files
  changes_counted both [] [] h = refl
  changes_counted both [] (file ∷ files) h = absurd h
  changes_counted both (key ∷ keys) [] h = absurd h
  changes_counted both (key ∷ keys) (file ∷ files) h =
      let rows = key_rows both key.key file.1 h.0.1 in
      let counted : key.count ≡ 1 = ap (λ (t : Tallied Sides). t.count) h.0.0 in
      let first : key.first ≡ file.0 = ap (λ (t : Tallied Sides). t.first) h.0.0 in
      let more = changes_counted both keys files h.1 in
      λ i. keyed (change_of places (rows i)) (counted i) (first i) ++ more i

  says_changes : (both : BothClassed) (ts : List (Tallied Sides)) (files : List (PathOf × RowsOfFile)) → AreCounted both ts files
      → SaysAs (rekeyed (λ key. change_of places (rows_of_key both key)) ts) (changes_of places files)
  says_changes both ts files at =
      subst (λ l. SaysAs (rekeyed (λ key. change_of places (rows_of_key both key)) ts) l) (changes_counted both at.keys files at.are)
      (says_rekeyed (λ key. change_of places (rows_of_key both key)) ts at.keys at.says)

says_after : (others xs ys : List (Tallied Sides)) → SaysAs xs ys → SaysAs (others ++ xs) (others ++ ys)
says_after others xs ys says = record {
  counts = λ test. count_append test others xs ∙ ap (λ n. count_where test others + n) (says.counts test) ∙ sym (count_append test others ys);
  firsts = λ test. first_append test others xs ∙ ap (λ o. option_or (first_where test others) o) (says.firsts test) ∙ sym (first_append test others ys);
}

pub on_ok : {A E : Type 0} {P R : Type 0} (r : Result A E) → (P → R) → OnOk r P → OnOk r R
on_ok (Ok a) f p = f p
on_ok (Err fault) f p = tt

-- ---- no change outside a part

module _ (V : Verdict) (along : Bool) (loaded now : State) where
  abbrev rows_before : Rows
  rows_before = rows_granted V along loaded

  abbrev rows_after : Rows
  rows_after = rows_granted V along now

  abbrev change_in : Sides → PathOf × RowsOfFile → List (Tallied Sides)
  change_in places file = keyed (change_of places file.1) 1 file.0

  -- the changes of files that were counted by their classes
  pub counted_changes : (both : BothClassed) (ts : List (Tallied Sides)) (files : List (PathOf × RowsOfFile)) → AreCounted both ts files → (olds news : List UserGains)
      → ArePassed both ts olds news → HaveChanges files olds news
  counted_changes both ts files at [] [] h = tt
  counted_changes both ts files at [] (new ∷ news) h = absurd h
  counted_changes both ts files at (old ∷ olds) [] h = absurd h
  counted_changes both ts files at (old ∷ olds) (new ∷ news) h =
      let places : Sides = (old.user.before, old.user.after) in
      let counted = rekeyed (λ key. change_of places (rows_of_key both key)) ts in
      let is = says_changes places both ts files at in (
        (h.0.0, λ others says. says_both new.tallies (others ++ counted) (others ++ changes_of places files) (h.0.1 others says) (says_after others counted (changes_of places files) is)),
        counted_changes both ts files at olds news h.1,
      )

  -- no file
  pub no_changes : (users : List UserGains) → HaveChanges [] users users
  no_changes [] = tt
  no_changes (user ∷ users) = ((refl, λ others says. subst (SaysAs user.tallies) (sym (append-nil others)) says), no_changes users)

  -- those of some files, and then of more
  pub changes_more : (files more : List (PathOf × RowsOfFile)) (olds mids news : List UserGains) → HaveChanges files olds mids → HaveChanges more mids news → HaveChanges (files ++ more) olds news
  changes_more files more [] [] news first second = second_only news second
    where
      second_only : (news : List UserGains) → HaveChanges more [] news → HaveChanges (files ++ more) [] news
      second_only [] h = tt
      second_only (new ∷ news) h = absurd h
  changes_more files more [] (mid ∷ mids) news first second = absurd first
  changes_more files more (old ∷ olds) [] news first second = absurd first
  changes_more files more (old ∷ olds) (mid ∷ mids) [] first second = absurd second
  changes_more files more (old ∷ olds) (mid ∷ mids) (new ∷ news) first second =
      let places : Sides = (old.user.before, old.user.after) in
      let same : (mid.user.before, mid.user.after) ≡ places = ap (λ (p : Placed). p.1) first.0.0 in
      let joined = λ (others : List (Tallied Sides)).
      (λ i. (others ++ changes_of places files) ++ changes_of (same i) more) ∙ append_assoc others (changes_of places files) (changes_of places more)
      ∙ ap (λ l. others ++ l) (sym (flat_map-append (change_in places) files more)) in (
        (second.0.0 ∙ first.0.0, λ others says. subst (SaysAs new.tallies) (joined others) (second.0.1 (others ++ changes_of places files) (first.0.1 others says))),
        changes_more files more olds mids news first.1 second.1,
      )

  -- those of the files at or below some paths are all
  pub inside_changes : (tops : List PathOf) (olds news : List UserGains) → ((p : PathOf) → is_inside tops p ≡ false → AreSilentOn (rows_at V along loaded now p) olds)
      → HaveChanges (inside tops (rows_in_both V along loaded now)) olds news → HaveChanges (rows_in_both V along loaded now) olds news
  inside_changes tops [] [] silent h = tt
  inside_changes tops [] (new ∷ news) silent h = absurd h
  inside_changes tops (old ∷ olds) [] silent h = absurd h
  inside_changes tops (old ∷ olds) (new ∷ news) silent h =
      let places : Sides = (old.user.before, old.user.after) in
      let whole = parts_inside (change_in places) rows_before rows_after tops (λ p apart. ap (λ o. keyed o 1 p) (silent p apart).0) (put_all rows_after rows_before) in
      ((h.0.0, λ others says. subst (λ l. SaysAs new.tallies (others ++ l)) whole (h.0.1 others says)), inside_changes tops olds news (λ p apart. (silent p apart).1) h.1)

  -- ---- where rows are the same outside a part

  module _ (before_order : IsInOrder loaded.tree.files) (after_order : IsInOrder now.tree.files) where
    pub silent_outside : (top : List PathOf) → SameOutside V top loaded now → (users : List UserGains) → list_all keeps users ≡ true
        → (p : PathOf) → is_outside top p ≡ true → AreSilentOn (rows_at V along loaded now p) users
    silent_outside top same [] keep p apart = tt
    silent_outside top same (user ∷ users) keep p apart =
        let parts = and_parts (keeps user) (list_all keeps users) keep in
        let places : Sides = (user.user.before, user.user.after) in
        let here = ap (λ o. change_of places (find path_cmp p rows_before, o)) (sym (row_stays V along loaded now before_order after_order top same p apart)) in
        (here ∙ unchanged places (find path_cmp p rows_before) parts.0, silent_outside top same users parts.1 p apart)
