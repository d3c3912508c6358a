-- The counted rows of a text are the first of their names.
use Rattle.std.proofs.Common.{◌≡◌, ℕ, ◌+◌, ◌≤◌, Bool, true, false, leb, List, [], ◌∷◌, ◌++◌, length, map, take, Option, Some, None, Result, Ok, refl, sym, ap}
use Rattle.std.proofs.Common.{◌∙◌, inl, inr, arith, append_assoc, append-nil, length-append}
use Rattle.std.specs.Prelude.{◌||◌, ◌↔◌, if◌then◌else◌, not, filter}
use Rattle.std.specs.List.{enumerate_from}
use Rattle.std.specs.Str.{bytes_eq}
use Rattle.std.proofs.Math.Seq.{take-append_seam}
use Rattle.std.proofs.lemmas.Bool.{cases_Bool, leb-false, lt-leb}
use Rattle.std.proofs.lemmas.List.Folds.{list_any-append}
use Rattle.std.proofs.lemmas.Slice.Eq.{bytes_eq-Decides}
use Rattle.acl_names.specs.Pieces.{pieces}
use Rattle.acl_text.specs.declared.fault.FaultKind.{FaultKind}
use Rattle.acl_text.specs.declared.fault.TextFault.{TextFault}
use Rattle.acl_text.specs.InTurn.{read_each_from, read_each}
use Rattle.acl_text.specs.Rows.{has_no_content, is_repeated, most_rows, one_line}
use Rattle.acl_text.proofs.Counted.{or_no}
use Rattle.acl_text.specs.CountedRows.{firsts, AreCounted}

module _ {R : Type 0} (name_of : R → List ℕ) where
  abbrev repeated : List R → R → Bool
  repeated rows row = is_repeated name_of rows (name_of row)

  -- the rows that no earlier row has the name of, where some rows are before them
  abbrev new_rows : List R → List R → List R
  new_rows before [] = []
  new_rows before (row ∷ rows) = if repeated before row then new_rows (before ++ row ∷ []) rows else row ∷ new_rows (before ++ row ∷ []) rows

  -- ---- the rows by their places

  abbrev is_first : List R → ℕ × R → Bool
  is_first all p = not (repeated (take p.0 all) p.1)

  from_places : (all before rows : List R) (n : ℕ) → all ≡ before ++ rows → n ≡ length before
      → map (λ p. p.1) (filter (is_first all) (enumerate_from n rows)) ≡ new_rows before rows
  from_places all before [] n parts place = refl
  from_places all before (row ∷ rows) n parts place =
      let front : take n all ≡ before = rw (parts, place) (take-append_seam before (row ∷ rows)) in
      let rest = from_places all (before ++ row ∷ []) rows (n + 1) (parts ∙ sym (append_assoc before (row ∷ []) rows)) (omega (arith, length-append before (row ∷ []))) in
      elim (cases_Bool (repeated before row)) [
        | inl known ↦ rw (front, known) rest
        | inr new ↦ rw (front, new) (ap (λ (rs : List R). row ∷ rs) rest)
      ]

  firsts_are : (rows : List R) → firsts name_of rows ≡ new_rows [] rows
  firsts_are rows = from_places rows [] rows 0 refl refl

  -- ---- the same names

  record HaveSameNames (some all : List R) : Type 0 where
    same : (name : List ℕ) → is_repeated name_of some name ≡ is_repeated name_of all name

  known_more : (some all : List R) (row : R) → HaveSameNames some all → repeated all row ≡ true → HaveSameNames some (all ++ row ∷ [])
  known_more some all row names known = record {
    same = λ name.
        elim (cases_Bool (bytes_eq (name_of row) name)) [
          | inl is ↦
              let equal : name_of row ≡ name = (bytes_eq-Decides (name_of row) name).0 is in
              let there : is_repeated name_of all name ≡ true = ap (is_repeated name_of all) (sym equal) ∙ known in
              rw (list_any-append, is, names.same name, there) refl
          | inr other ↦ rw (list_any-append, other) (names.same name ∙ or_no (is_repeated name_of all name))
        ];
  }

  new_more : (some all : List R) (row : R) → HaveSameNames some all → HaveSameNames (some ++ row ∷ []) (all ++ row ∷ [])
  new_more some all row names = record {
    same = λ name.
        list_any-append (λ r. bytes_eq (name_of r) name) some (row ∷ [])
        ∙ (ap (λ (b : Bool). b || (bytes_eq (name_of row) name || false)) (names.same name) ∙ sym (list_any-append (λ r. bytes_eq (name_of r) name) all (row ∷ [])));
  }

  -- ---- line by line

  module _ (row_of : List (List ℕ) → Option R) where
    abbrev judge : ℕ → List R → List ℕ → Result (List R) FaultKind
    judge at rows line = one_line name_of row_of rows line

    abbrev reads_rows : ℕ → List R → List (List ℕ) → Result (List R) TextFault
    reads_rows at some lines = read_each_from judge at some lines

    abbrev rows_on : List (List ℕ) → List (Option R)
    rows_on lines = map (λ line. row_of (pieces 58 line)) (filter (λ line. not (has_no_content line)) lines)

    -- once some rows are counted, what the other lines add
    record Adds (some all : List R) (lines : List (List ℕ)) (out : List R) : Type 0 where
      rows : List R
      well_formed : rows_on lines ≡ map (λ row. Some row) rows
      out_is : out ≡ some ++ new_rows all rows
      few : length out ≤ most_rows

    -- a line that is not ignored, where the other lines are known
    module _ (at : ℕ) (some all : List R) (line : List ℕ) (lines : List (List ℕ)) (out : List R) (names : HaveSameNames some all) (means : has_no_content line ≡ false) where
      known_adds : (row : R) → rows_on (line ∷ lines) ≡ Some row ∷ rows_on lines → repeated all row ≡ true → Adds some (all ++ row ∷ []) lines out → Adds some all (line ∷ lines) out
      known_adds row on known more = record {
        rows = row ∷ more.rows;
        well_formed = on ∙ ap (λ (os : List (Option R)). Some row ∷ os) more.well_formed;
        out_is = rw known more.out_is;
        few = more.few;
      }

      new_adds : (row : R) → rows_on (line ∷ lines) ≡ Some row ∷ rows_on lines → repeated all row ≡ false → Adds (some ++ row ∷ []) (all ++ row ∷ []) lines out → Adds some all (line ∷ lines) out
      new_adds row on new more = record {
        rows = row ∷ more.rows;
        well_formed = on ∙ ap (λ (os : List (Option R)). Some row ∷ os) more.well_formed;
        out_is = rw new (more.out_is ∙ append_assoc some (row ∷ []) (new_rows (all ++ row ∷ []) more.rows));
        few = more.few;
      }

      added_row : (o : Option R) → row_of (pieces 58 line) ≡ o → length some ≤ most_rows → reads_rows at some (line ∷ lines) ≡ Ok out
          → ((more others : List R) → HaveSameNames more others → length more ≤ most_rows → reads_rows (at + 1) more lines ≡ Ok out → Adds more others lines out)
          → Adds some all (line ∷ lines) out
      added_row None is few e goes_on = let read_each = rw (means, is) at e in absurd cc
      added_row (Some row) is few e goes_on =
          let on : rows_on (line ∷ lines) ≡ Some row ∷ rows_on lines = rw (means, is) refl in
          elim (cases_Bool (repeated some row)) [
            | inl known ↦
                let there : repeated all row ≡ true = sym (names.same (name_of row)) ∙ known in
                known_adds row on there (goes_on some (all ++ row ∷ []) (known_more some all row names there) few (rw (means, is, known) at e))
            | inr new ↦
                let absent : repeated all row ≡ false = sym (names.same (name_of row)) ∙ new in
                elim (cases_Bool (leb most_rows (length some))) [
                  | inl full ↦ let read_each = rw (means, is, new, full) at e in absurd cc
                  | inr room ↦
                      let fits : length (some ++ row ∷ []) ≤ most_rows = omega (arith, length-append some (row ∷ []), leb-false most_rows (length some) room) in
                      new_adds row on absent (goes_on (some ++ row ∷ []) (all ++ row ∷ []) (new_more some all row names) fits (rw (means, is, new, room) at e))
                ]
          ]

    added : (at : ℕ) (some all : List R) (lines : List (List ℕ)) (out : List R) → HaveSameNames some all → length some ≤ most_rows → reads_rows at some lines ≡ Ok out → Adds some all lines out
    added at some all [] out names few e =
        let same : some ≡ out = cc in
        record { rows = []; well_formed = refl; out_is = sym same ∙ sym (append-nil some); few = rw (← same) few }
    added at some all (line ∷ lines) out names few e =
        elim (cases_Bool (has_no_content line)) [
          | inl nothing ↦
              let more = added (at + 1) some all lines out names few (rw nothing at e) in
              record { rows = more.rows; well_formed = rw nothing more.well_formed; out_is = more.out_is; few = more.few }
          | inr means ↦ added_row at some all line lines out names means (row_of (pieces 58 line)) refl few e (λ more others same room goes. added (at + 1) more others lines out same room goes)
        ]

    module _ (at : ℕ) (some all : List R) (line : List ℕ) (lines : List (List ℕ)) where
      reads_row : (rows : List R) → HaveSameNames some all → has_no_content line ≡ false → row_of (pieces 58 line) ∷ rows_on lines ≡ map (λ row. Some row) rows
          → length (some ++ new_rows all rows) ≤ most_rows
          → ((more others rest : List R) → HaveSameNames more others → rows_on lines ≡ map (λ row. Some row) rest
          → length (more ++ new_rows others rest) ≤ most_rows → reads_rows (at + 1) more lines ≡ Ok (more ++ new_rows others rest))
          → reads_rows at some (line ∷ lines) ≡ Ok (some ++ new_rows all rows)
      reads_row [] names means are few goes_on = absurd cc
      reads_row (row ∷ rows) names means are few goes_on =
          let is : row_of (pieces 58 line) ≡ Some row = cc in
          let others : rows_on lines ≡ map (λ row. Some row) rows = cc in
          elim (cases_Bool (repeated some row)) [
            | inl known ↦
                let there : repeated all row ≡ true = sym (names.same (name_of row)) ∙ known in
                rw (means, is, known, there) (goes_on some (all ++ row ∷ []) rows (known_more some all row names there) others (rw there at few))
            | inr new ↦
                let absent : repeated all row ≡ false = sym (names.same (name_of row)) ∙ new in
                let along : some ++ (row ∷ new_rows (all ++ row ∷ []) rows) ≡ (some ++ row ∷ []) ++ new_rows (all ++ row ∷ []) rows =
                sym (append_assoc some (row ∷ []) (new_rows (all ++ row ∷ []) rows)) in
                let short : length (some ++ (row ∷ new_rows (all ++ row ∷ []) rows)) ≤ most_rows = rw absent at few in
                let room : leb most_rows (length some) ≡ false = lt-leb most_rows (length some) (omega (arith, short, length-append some (row ∷ new_rows (all ++ row ∷ []) rows))) in
                rw (means, is, new, room, absent, along) (goes_on (some ++ row ∷ []) (all ++ row ∷ []) rows (new_more some all row names) others (rw along at short))
          ]

    reads_added : (at : ℕ) (some all : List R) (lines : List (List ℕ)) (rows : List R) → HaveSameNames some all → rows_on lines ≡ map (λ row. Some row) rows
        → length (some ++ new_rows all rows) ≤ most_rows → reads_rows at some lines ≡ Ok (some ++ new_rows all rows)
    reads_added at some all [] [] names are few = ap (λ (rs : List R). Ok rs) (sym (append-nil some))
    reads_added at some all [] (row ∷ rows) names are few = absurd cc
    reads_added at some all (line ∷ lines) rows names are few =
        elim (cases_Bool (has_no_content line)) [
          | inl nothing ↦ rw nothing (reads_added (at + 1) some all lines rows names (rw nothing at are) few)
          | inr means ↦ reads_row at some all line lines rows names means (rw means at are) few (λ more others rest same goes room. reads_added (at + 1) more others lines rest same goes room)
        ]

    pub counted_are : (bytes : List ℕ) (out : List R) → (read_each judge [] (pieces 10 bytes) ≡ Ok out) ↔ AreCounted name_of row_of bytes out
    counted_are bytes out = (
      λ e.
          let more = added 1 [] [] (pieces 10 bytes) out (record { same = λ name. refl }) (omega arith) e in
          record { rows = more.rows; well_formed = more.well_formed; first = more.out_is ∙ sym (firsts_are more.rows); few = more.few },
      λ are.
          let is : out ≡ new_rows [] are.rows = are.first ∙ firsts_are are.rows in
          reads_added 1 [] [] (pieces 10 bytes) are.rows (record { same = λ name. refl }) are.well_formed (rw (← is) are.few) ∙ ap (λ (rs : List R). Ok rs) (sym is),
    )
