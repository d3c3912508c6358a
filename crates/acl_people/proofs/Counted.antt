-- The names of counted rows are distinct, not empty, and made of bytes.
use Rattle.std.proofs.Common.{◌≡◌, ℕ, ◌+◌, ◌<◌, Bool, true, false, cond, List, [], ◌∷◌, ◌++◌, length, map, get_or, position, Option, Some, None, option_map}
use Rattle.std.proofs.Common.{Result, Ok, Err, if◌then◌else◌, nat_le, refl, ap, subst, ◌∙◌, inl, inr, arith, length-append}
use Rattle.std.specs.List.{list_all, position_or_len, remove}
use Rattle.std.specs.Option.{option_or}
use Rattle.std.specs.Str.{bytes_eq}
use Rattle.std.specs.Cmp.Lexicographic.{nat_list_eq_equiv}
use Rattle.std.proofs.lemmas.List.{map_push, length-map, get_or_append_left, get_or_push}
use Rattle.std.proofs.lemmas.List.Edits.{length-remove, get_or-remove_below, get_or-remove_above}
use Rattle.std.proofs.lemmas.List.Quantifiers.{position-Some}
use Rattle.std.proofs.lemmas.List.Sums.{position_or_len_is}
use Rattle.std.proofs.lemmas.Bool.{cases_lt, and_parts}
use Rattle.std.proofs.lemmas.Bool.Decides.{nat_tests}
use Rattle.acl_names.specs.Pieces.{pieces, is_byte}
use Rattle.acl_names.proofs.Basics.{both_false}
use Rattle.acl_text.specs.declared.fault.FaultKind.{FaultKind}
use Rattle.acl_text.specs.declared.fault.FaultKind.TheVariants.{TooMany}
use Rattle.acl_text.specs.declared.fault.TextFault.{TextFault}
use Rattle.acl_text.specs.InTurn.{read_each_from, at_place}
use Rattle.acl_text.specs.Rows.{is_repeated, counted, one_line, has_no_content, most_rows}
use Rattle.acl_people.specs.NameTables.{Named, is_name, AreNames, AreCounted}
use Rattle.acl_people.proofs.Bytes.{are_texts, pieces_made}
use Rattle.acl_people.proofs.Places.{position-cons, position-push}

err_is_not_ok : {A E : Type 0} (e : E) (x : A) → Err e ≡ Ok x → ⊥
err_is_not_ok e x h = cc

ok_same : {A : Type 0} (E : Type 0) (x y : A) → (let a : Result A E = Ok x in a ≡ Ok y) → x ≡ y
ok_same E x y h = cc

no_names : AreNames []
no_names = record { once = λ i d lt. absurd (omega arith); filled = λ i d lt. absurd (omega arith); made_of_bytes = λ i d lt. absurd (omega arith) }

-- a text that may be a name
pub record IsNameText (name : List ℕ) : Type 0 where
  pub filled : 0 < length name
  pub made_of_bytes : list_all is_byte name ≡ true

-- one more name
pub names_push : (es : List Named) (y : Named) → AreNames es → position (is_name y.0) es ≡ None → IsNameText y.0 → AreNames (es ++ y ∷ [])
names_push es y names new text = record { once = once; filled = each_filled; made_of_bytes = each_made }
  where
    once : (i : ℕ) (d : Named) → i < length (es ++ y ∷ []) → position (is_name (get_or (es ++ y ∷ []) i d).0) (es ++ y ∷ []) ≡ Some i
    once i d lt = elim (cases_lt i (length es)) [
      | inl before ↦
          rw (get_or_append_left es (y ∷ []) d i before)
          (position-push (is_name (get_or es i d).0) es y ∙ ap (λ o. option_or o (if is_name (get_or es i d).0 y then Some (length es) else None)) (names.once i d before))
      | inr after ↦
          let last : length es ≡ i = omega (arith, length-append es (y ∷ [])) in
          rw (get_or_push es y d i last)
          (position-push (is_name y.0) es y
          ∙ ap (λ o. option_or o (if is_name y.0 y then Some (length es) else None)) new
          ∙ ap (λ b. if b then Some (length es) else None) (nat_list_eq_equiv.refl y.0)
          ∙ ap (λ n. Some n) last)
    ]

    each_filled : (i : ℕ) (d : Named) → i < length (es ++ y ∷ []) → 0 < length (get_or (es ++ y ∷ []) i d).0
    each_filled i d lt = elim (cases_lt i (length es)) [
      | inl before ↦ rw (get_or_append_left es (y ∷ []) d i before) (names.filled i d before)
      | inr after ↦
          let last : length es ≡ i = omega (arith, length-append es (y ∷ [])) in
          rw (get_or_push es y d i last) text.filled
    ]

    each_made : (i : ℕ) (d : Named) → i < length (es ++ y ∷ []) → list_all is_byte (get_or (es ++ y ∷ []) i d).0 ≡ true
    each_made i d lt = elim (cases_lt i (length es)) [
      | inl before ↦ rw (get_or_append_left es (y ∷ []) d i before) (names.made_of_bytes i d before)
      | inr after ↦
          let last : length es ≡ i = omega (arith, length-append es (y ∷ [])) in
          rw (get_or_push es y d i last) text.made_of_bytes
    ]

pub none_counted : AreCounted []
none_counted = record { names = no_names; few = omega arith }

pub counted_push : (es : List Named) (y : Named) → AreCounted es → position (is_name y.0) es ≡ None → IsNameText y.0 → length es < most_rows → AreCounted (es ++ y ∷ [])
counted_push es y known new text room = record { names = names_push es y known.names new text; few = omega (arith, length-append es (y ∷ [])) }

first_is : {X : Type 0} (p : X → Bool) (xs : List X) (i : ℕ) (d : X) → i < length xs → ((k : ℕ) → k < i → p (get_or xs k d) ≡ false) → p (get_or xs i d) ≡ true → position p xs ≡ Some i
first_is p xs i d lt fails passes =
    let at : position_or_len p xs ≡ i = position_or_len_is p xs i d (omega arith) fails (λ _. passes) in
    grind (arith, nat_tests)

-- one name less
pub counted_remove : (es : List Named) (u : ℕ) → u < length es → AreCounted es → AreCounted (remove es u)
counted_remove es u within known = record { names = record { once = once; filled = each_filled; made_of_bytes = each_made }; few = omega (arith, length-remove es u within, known.few) }
  where
    once : (i : ℕ) (d : Named) → i < length (remove es u) → position (is_name (get_or (remove es u) i d).0) (remove es u) ≡ Some i
    once i d lt = elim (cases_lt i u) [
      | inl below ↦
          let same = get_or-remove_below es u d i below within in
          let first = position-Some (is_name (get_or es i d).0) es i d (known.names.once i d (omega arith)) in
          rw same (first_is (is_name (get_or es i d).0) (remove es u) i d lt (λ k before. rw (get_or-remove_below es u d k (omega arith) within) (first.2 k before)) (rw same first.1))
      | inr above ↦
          let same = get_or-remove_above es u d i above within in
          let first = position-Some (is_name (get_or es (i + 1) d).0) es (i + 1) d (known.names.once (i + 1) d (omega (arith, length-remove es u within))) in
          rw same (first_is (is_name (get_or es (i + 1) d).0) (remove es u) i d lt (λ k before. elim (cases_lt k u) [
            | inl low ↦ rw (get_or-remove_below es u d k low within) (first.2 k (omega arith))
            | inr high ↦ rw (get_or-remove_above es u d k high within) (first.2 (k + 1) (omega arith))
          ]) (rw same first.1))
    ]

    each_filled : (i : ℕ) (d : Named) → i < length (remove es u) → 0 < length (get_or (remove es u) i d).0
    each_filled i d lt = elim (cases_lt i u) [
      | inl below ↦ rw (get_or-remove_below es u d i below within) (known.names.filled i d (omega arith))
      | inr above ↦ rw (get_or-remove_above es u d i above within) (known.names.filled (i + 1) d (omega (arith, length-remove es u within)))
    ]

    each_made : (i : ℕ) (d : Named) → i < length (remove es u) → list_all is_byte (get_or (remove es u) i d).0 ≡ true
    each_made i d lt = elim (cases_lt i u) [
      | inl below ↦ rw (get_or-remove_below es u d i below within) (known.names.made_of_bytes i d (omega arith))
      | inr above ↦ rw (get_or-remove_above es u d i above within) (known.names.made_of_bytes (i + 1) d (omega (arith, length-remove es u within)))
    ]

module _ {R : Type 0} (name_of : R → List ℕ) (id_of : R → ℕ) where
  abbrev entries : List R → List Named
  entries rows = map (λ r. (name_of r, id_of r)) rows

  not_there : (name : List ℕ) (rows : List R) → is_repeated name_of rows name ≡ false → position (is_name name) (entries rows) ≡ None
  not_there name [] h = refl
  not_there name (r ∷ rows) h =
      let apart = both_false (bytes_eq (name_of r) name) (is_repeated name_of rows name) h in
      position-cons (is_name name) (name_of r, id_of r) (entries rows)
      ∙ ap (λ b. cond b (Some 0) (option_map (λ k. k + 1) (position (is_name name) (entries rows)))) (nat_list_eq_equiv.symm name (name_of r) ∙ apart.0)
      ∙ ap (λ o. option_map (λ k. k + 1) o) (not_there name rows apart.1)

  counted_keeps : (rows new : List R) (o : Option R) → ((row : R) → o ≡ Some row → IsNameText (name_of row)) → AreCounted (entries rows) → counted name_of rows o ≡ Ok new → AreCounted (entries new)
  counted_keeps rows new None text known is = absurd (err_is_not_ok _ new is)
  counted_keeps rows new (Some row) text known is = by (is_repeated name_of rows (name_of row)) refl is
    where
      full : (b : Bool) → nat_le most_rows (length rows) ≡ b → is_repeated name_of rows (name_of row) ≡ false
          → (let many : Result (List R) FaultKind = Err TooMany in (if b then many else Ok (rows ++ row ∷ [])) ≡ Ok new) → AreCounted (entries new)
      full true room apart e = absurd (err_is_not_ok _ new e)
      full false room apart e =
          subst (λ rs. AreCounted (entries rs)) (ok_same FaultKind (rows ++ row ∷ []) new e)
          (let pushed : entries (rows ++ row ∷ []) ≡ entries rows ++ (name_of row, id_of row) ∷ [] = map_push (λ r. (name_of r, id_of r)) rows row in
          rw pushed (counted_push (entries rows) (name_of row, id_of row) known (not_there (name_of row) rows apart) (text row refl)
          (let as_long : length (entries rows) ≡ length rows = length-map rows (λ r. (name_of r, id_of r)) in grind (arith, nat_tests))))

      by : (b : Bool) → is_repeated name_of rows (name_of row) ≡ b
          → (let many : Result (List R) FaultKind = Err TooMany in
          (if b then Ok rows else (if nat_le most_rows (length rows) then many else Ok (rows ++ row ∷ []))) ≡ Ok new) → AreCounted (entries new)
      by true there e = subst (λ rs. AreCounted (entries rs)) (ok_same FaultKind rows new e) known
      by false apart e = full (nat_le most_rows (length rows)) refl apart e

  module _ (row_of : List (List ℕ) → Option R) (text : (fields : List (List ℕ)) → are_texts fields ≡ true → (row : R) → row_of fields ≡ Some row → IsNameText (name_of row)) where
    line_keeps : (rows new : List R) (line : List ℕ) → list_all is_byte line ≡ true → AreCounted (entries rows) → one_line name_of row_of rows line ≡ Ok new → AreCounted (entries new)
    line_keeps rows new line made known is = by (has_no_content line) is
      where
        by : (b : Bool) → (if b then Ok rows else counted name_of rows (row_of (pieces 58 line))) ≡ Ok new → AreCounted (entries new)
        by true e = subst (λ rs. AreCounted (entries rs)) (ok_same FaultKind rows new e) known
        by false e = counted_keeps rows new (row_of (pieces 58 line)) (λ row is. text (pieces 58 line) (pieces_made 58 line made) row is) known e

    -- the rows that are counted of all lines
    pub reads_keep : (at : ℕ) (rows new : List R) (ls : List (List ℕ)) → are_texts ls ≡ true → AreCounted (entries rows)
        → read_each_from (λ at rows line. one_line name_of row_of rows line) at rows ls ≡ Ok new → AreCounted (entries new)
    reads_keep at rows new [] made known is = subst (λ rs. AreCounted (entries rs)) (ok_same TextFault rows new is) known
    reads_keep at rows new (l ∷ ls) made known is =
        let parts = and_parts (list_all is_byte l) (are_texts ls) made in
        by parts.0 (one_line name_of row_of rows l) refl is (λ mid more e. reads_keep (at + 1) mid new ls parts.1 more e)
      where
        by : list_all is_byte l ≡ true → (r : Result (List R) FaultKind) → one_line name_of row_of rows l ≡ r
            → at_place at r (λ more. read_each_from (λ at rows line. one_line name_of row_of rows line) (at + 1) more ls) ≡ Ok new
            → ((mid : List R) → AreCounted (entries mid) → read_each_from (λ at rows line. one_line name_of row_of rows line) (at + 1) mid ls ≡ Ok new
            → AreCounted (entries new)) → AreCounted (entries new)
        by line (Ok mid) e is more = more mid (line_keeps rows mid l line known e) is
        by line (Err kind) e is more = absurd (err_is_not_ok _ new is)
