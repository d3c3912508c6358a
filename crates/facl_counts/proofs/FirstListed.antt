-- The first files of a user: those of a walk over files and classes, path by path.
use Rattle.std.proofs.Common.{◌≡◌, ℕ, zero, suc, ◌<◌, ◌≤◌, Bool, true, false, cond, ◌&&◌, List, [], ◌∷◌, ◌++◌, append-nil, append_assoc, filter, length, map, take, Option, Some, None}
use Rattle.std.proofs.Common.{refl, sym, ap, subst, ◌∙◌, arith}
use Rattle.std.specs.Prelude.{option_map, slice_get}
use Rattle.std.specs.List.{flat_map}
use Rattle.std.specs.Option.{option_map_or}
use Rattle.std.proofs.lemmas.List.{map-append}
use Rattle.acl_entry.specs.Check.{has}
use Rattle.acl_names.specs.Below.{encloses}
use Rattle.acl_names.specs.Paths.{PathOf}
use Rattle.acl_names.proofs.Basics.{and_false}
use Rattle.acl_text.specs.declared.rows.PasswdRow.{PasswdRow}
use Rattle.acl_edit.specs.declared.node.Node.{Node}
use Rattle.path_map.specs.Below.{from, holds_below, within}
use Rattle.path_map.specs.Entries.{IsInOrder}
use Rattle.path_map.proofs.Ranges.{from_end}
use Rattle.acl_tree.specs.Files.{Files}
use Rattle.acl_tree.specs.Found.{FoundFile, files_found, found_file, found_in}
use Rattle.acl_tree.specs.Inner.{next_file_below}
use Rattle.acl_tree.specs.Operands.{is_file}
use Rattle.acl_tree.specs.State.{State}
use Rattle.acl_tree.proofs.Follows.{known_by_next}
use Rattle.path_classes.specs.Rows.{Rows, grants}
use Rattle.acl_rights.specs.Rows.{Verdict}
use Rattle.acl_rights.specs.Verdicts.{granted, rows_granted}
use Rattle.facl_answers.specs.Answers.{file_line}
use Rattle.facl_answers.specs.BothStates.{front}
use Rattle.facl_answers.specs.Inner.{RowedFile, rowed_files}
use Rattle.facl_answers.proofs.GrantedFiles.{cell_granted, cells_granted, rows_are}
use Rattle.facl_answers.proofs.PartRows.{front_within}
use Rattle.facl_counts.specs.BelowText.{is_of_kind, granted_below, listed_text}
use Rattle.facl_counts.specs.Listed.{is_listed, listed_of, listed_in, AddsListed, IsListing}
use Rattle.facl_counts.specs.declared.listed.Listing.{Listing}
use Rattle.facl_counts.proofs.KindRows.{rows_from}

-- ---- the first of some

take_enough : {A : Type 0} (n : ℕ) (xs ys : List A) → n ≤ length (take n xs) → take n (xs ++ ys) ≡ take n xs
take_enough zero [] [] h = refl
take_enough zero [] (y ∷ ys) h = refl
take_enough zero (x ∷ xs) ys h = refl
take_enough (suc n) [] ys h = absurd (omega (arith, h))
take_enough (suc n) (x ∷ xs) ys h = ap (λ l. x ∷ l) (take_enough n xs ys (omega (arith, h)))

take_one : {A : Type 0} (n : ℕ) (x : A) → take (suc n) (x ∷ []) ≡ x ∷ []
take_one zero x = refl
take_one (suc n) x = refl

take_one_more : {A : Type 0} (n : ℕ) (xs : List A) (x : A) → length (take n xs) < n → take n (xs ++ x ∷ []) ≡ take n xs ++ x ∷ []
take_one_more zero xs x h = absurd (omega (arith, h))
take_one_more (suc n) [] x h = take_one n x
take_one_more (suc n) (y ∷ xs) x h = ap (λ l. y ∷ l) (take_one_more n xs x (omega (arith, h)))

pub none_of : {A : Type 0} (n : ℕ) → take {A = A} n [] ≡ []
none_of zero = refl
none_of (suc n) = refl

-- ---- a walk

module _ (l : Listing) where
  pub listing_starts : (start : List FoundFile) (all : List RowedFile) → IsListing l start start all all
  listing_starts start all = record { more = []; whole = refl; adds = λ seen is. is ∙ ap (take l.most) (sym (append-nil seen)) }

  -- one file more, where there is room
  pub listing_more : (start now new : List FoundFile) (all left rest : List RowedFile) (file : RowedFile) (b : Bool) → left ≡ file ∷ rest → b ≡ is_listed l file → length now < l.most
      → new ≡ now ++ cond b (file.0 ∷ []) [] → IsListing l start now all left → IsListing l start new all rest
  listing_more start now new all left rest file b first is room added at = record {
    more = at.more ++ cond b (file.0 ∷ []) [];
    whole =
        append_assoc at.more (cond b (file.0 ∷ []) []) (listed_of l rest)
        ∙ ap (λ files. at.more ++ files) (one b is ∙ ap (listed_of l) (sym first))
        ∙ at.whole;
    adds = λ seen was. by b seen (at.adds seen was) added;
  }
    where
      one : (b : Bool) → b ≡ is_listed l file → cond b (file.0 ∷ []) [] ++ listed_of l rest ≡ listed_of l (file ∷ rest)
      one true is = ap (λ b. map (λ (f : RowedFile). f.0) (cond b (file ∷ filter (is_listed l) rest) (filter (is_listed l) rest))) is
      one false is = ap (λ b. map (λ (f : RowedFile). f.0) (cond b (file ∷ filter (is_listed l) rest) (filter (is_listed l) rest))) is

      by : (b : Bool) (seen : List FoundFile) → now ≡ take l.most (seen ++ at.more) → new ≡ now ++ cond b (file.0 ∷ []) [] → new ≡ take l.most (seen ++ (at.more ++ cond b (file.0 ∷ []) []))
      by true seen are added =
          added ∙ ap (λ files. files ++ file.0 ∷ []) are
          ∙ sym (take_one_more l.most (seen ++ at.more) file.0 (subst (λ files. length files < l.most) are room))
          ∙ ap (take l.most) (append_assoc seen at.more (file.0 ∷ []))
      by false seen are added =
          added ∙ append-nil now ∙ are ∙ ap (λ files. take l.most (seen ++ files)) (sym (append-nil at.more))

  -- none is left
  pub listing_ends : (start now : List FoundFile) (all left : List RowedFile) → left ≡ [] → IsListing l start now all left → AddsListed l start now (listed_of l all)
  listing_ends start now all left none at seen was =
      at.adds seen was ∙ ap (λ files. take l.most (seen ++ files)) (sym (append-nil at.more) ∙ ap (λ files. at.more ++ listed_of l files) (sym none) ∙ at.whole)

  -- there is no room
  pub listing_full : (start now : List FoundFile) (all left : List RowedFile) → l.most ≤ length now → IsListing l start now all left → AddsListed l start now (listed_of l all)
  listing_full start now all left full at seen was =
      let are = at.adds seen was in
      are
      ∙ sym (take_enough l.most (seen ++ at.more) (listed_of l left) (subst (λ files. l.most ≤ length files) are full))
      ∙ ap (take l.most) (append_assoc seen at.more (listed_of l left) ∙ ap (λ files. seen ++ files) at.whole)

-- ---- the files of a state

module _ (V : Verdict) (along : Bool) (s : State) where
  abbrev t : Files
  t = s.tree.files

  abbrev row_of : PathOf × Node → PathOf × List ℕ
  row_of e = (e.0, cells_granted V s along e)

  abbrev rowed : PathOf × Node → RowedFile
  rowed e = (found_file (holds_below t e.0) e, cells_granted V s along e)

  rowed_front : (top : PathOf) (done es : Files) → IsInOrder t → t ≡ done ++ es → rowed_files es (front top (map {B = PathOf × List ℕ} row_of es)) ≡ map {B = RowedFile} rowed (front top es)
  rowed_front top done [] order all = refl
  rowed_front top done (e ∷ es) order all = by (encloses top e.0) (rowed_front top (done ++ e ∷ []) es order (all ∙ sym (append_assoc done (e ∷ []) es)))
    where
      here : next_file_below e.0 es ≡ holds_below t e.0
      here = known_by_next done e es (subst IsInOrder all order) ∙ ap (λ (l : Files). holds_below l e.0) (sym all)

      by : (b : Bool) → rowed_files es (front top (map {B = PathOf × List ℕ} row_of es)) ≡ map {B = RowedFile} rowed (front top es)
          → rowed_files (e ∷ es) (cond b (row_of e ∷ front top (map {B = PathOf × List ℕ} row_of es)) []) ≡ map {B = RowedFile} rowed (cond b (e ∷ front top es) [])
      by true more = λ i. (found_file (here i) e, cells_granted V s along e) ∷ more i
      by false more = refl

  module _ (l : Listing) where
    abbrev counts : FoundFile → Bool
    counts file =
        is_of_kind l.asked.kind file.node && option_map_or (λ row. has (granted V along s row (file.path, file.node)) l.asked.request) (slice_get s.people.users l.user) false

    -- what the row of a file grants the user
    grants_is : (e : PathOf × Node) → grants l.asked.request l.user (cells_granted V s along e)
        ≡ option_map_or (λ row. has (granted V along s row e) l.asked.request) (slice_get s.people.users l.user) false
    grants_is e = ap (λ o. option_map_or (λ c. has c l.asked.request) o false) (cell_granted V s along e l.user) ∙ by (slice_get s.people.users l.user)
      where
        by : (o : Option PasswdRow) → option_map_or (λ c. has c l.asked.request) (option_map (λ row. granted V along s row e) o) false
            ≡ option_map_or (λ row. has (granted V along s row e) l.asked.request) o false
        by None = refl
        by (Some row) = refl

    rowed_listed : (es : Files) → listed_of l (map {B = RowedFile} rowed es) ≡ filter counts (found_in t es)
    rowed_listed [] = refl
    rowed_listed (e ∷ es) = by (is_listed l (rowed e)) (counts (found_file (holds_below t e.0) e)) (ap (λ b. is_of_kind l.asked.kind e.1 && b) (grants_is e)) (rowed_listed es)
      where
        by : (a b : Bool) → a ≡ b → listed_of l (map {B = RowedFile} rowed es) ≡ filter counts (found_in t es)
            → map (λ (f : RowedFile). f.0) (cond a (rowed e ∷ filter (is_listed l) (map {B = RowedFile} rowed es)) (filter (is_listed l) (map {B = RowedFile} rowed es)))
            ≡ cond b (found_file (holds_below t e.0) e ∷ filter counts (found_in t es)) (filter counts (found_in t es))
        by true true h more = ap (λ files. found_file (holds_below t e.0) e ∷ files) more
        by true false h more = absurd (cc h)
        by false true h more = absurd (cc h)
        by false false h more = more

    -- a walk from a path on has what is listed at the path and below it
    pub walk_listed : (top : PathOf) → IsInOrder t → listed_of l (rowed_files (from top t) (front top (from top (rows_granted V along s)))) ≡ listed_in V along s l (within top t)
    walk_listed top order =
        let rest = from_end top t order in
        ap (λ (rows : Rows). listed_of l (rowed_files (from top t) (front top rows))) (ap (from top) (rows_are V s along) ∙ rows_from V along s top t)
        ∙ ap (listed_of l) (rowed_front top rest.0 (from top t) order rest.1)
        ∙ ap (λ (es : Files). listed_of l (map {B = RowedFile} rowed es)) (front_within top t order)
        ∙ rowed_listed (within top t)

    filter_two : (xs ys : List FoundFile) → filter counts (xs ++ ys) ≡ filter counts xs ++ filter counts ys
    filter_two [] ys = refl
    filter_two (x ∷ xs) ys = by (counts x) (filter_two xs ys)
      where
        by : (b : Bool) → filter counts (xs ++ ys) ≡ filter counts xs ++ filter counts ys
            → cond b (x ∷ filter counts (xs ++ ys)) (filter counts (xs ++ ys)) ≡ cond b (x ∷ filter counts xs) (filter counts xs) ++ filter counts ys
        by true more = ap (λ files. x ∷ files) more
        by false more = more

    pub listed_two : (xs ys : Files) → listed_in V along s l (xs ++ ys) ≡ listed_in V along s l xs ++ listed_in V along s l ys
    listed_two xs ys =
        ap (filter counts) (map-append (λ (e : PathOf × Node). found_file (holds_below t e.0) e) xs ys)
        ∙ filter_two (found_in t xs) (found_in t ys)

    -- the text of what is listed
    pub listed_lines : (paths : List PathOf) → flat_map file_line (take l.most (listed_in V along s l (filter (λ e. is_file true paths e.0) t)))
        ≡ listed_text V along s l.asked.request l.asked.kind paths l.user l.most
    listed_lines paths = by (slice_get s.people.users l.user)
      where
        files : List FoundFile
        files = files_found true paths t

        nobody : (files : List FoundFile) → filter (λ (file : FoundFile). is_of_kind l.asked.kind file.node && false) files ≡ []
        nobody [] = refl
        nobody (file ∷ files) =
            ap (λ b. cond b (file ∷ filter (λ (file : FoundFile). is_of_kind l.asked.kind file.node && false) files) (filter (λ (file : FoundFile). is_of_kind l.asked.kind file.node && false) files))
            (and_false (is_of_kind l.asked.kind file.node))
            ∙ nobody files

        by : (o : Option PasswdRow)
            → flat_map file_line
            (take l.most (filter (λ (file : FoundFile). is_of_kind l.asked.kind file.node && option_map_or (λ row. has (granted V along s row (file.path, file.node)) l.asked.request) o false) files))
            ≡ option_map_or (λ row. flat_map file_line (take l.most (granted_below V along s l.asked.request l.asked.kind paths row))) o []
        by None = ap (λ files. flat_map file_line (take l.most files)) (nobody files) ∙ ap (flat_map file_line) (none_of l.most)
        by (Some row) = refl
