-- Notes of the names of a table: of one more, without one, and the first of an id.
use Rattle.std.proofs.Common.{◌≡◌, ℕ, zero, suc, ◌+◌, ◌-◌, ◌<◌, ◌≤◌, ◌==◌, ◌&&◌, Bool, true, false, not, cond, List, [], ◌∷◌, ◌++◌, length, map, filter, find, take, get_or}
use Rattle.std.proofs.Common.{position, Option, Some, None, option_map, if◌then◌else◌, refl, sym, ap, subst, ◌∙◌, arith}
use Rattle.std.specs.List.{remove}
use Rattle.std.proofs.lemmas.Bool.{ne_eqb, eq-eqb, lt-ltb, le-ltb}
use Rattle.std.proofs.lemmas.List.{length-map, length-take-le}
use Rattle.std.proofs.lemmas.List.Elements.{filter-append}
use Rattle.acl_people.specs.declared.places_by_id.Note.{Note}
use Rattle.acl_people.specs.NameTables.{Named, is_id}
use Rattle.acl_people.specs.Kept.{has_note, notes_from, notes_of, is_for, first_place, lowered, without_place, AreSorted}
use Rattle.acl_people.proofs.Places.{position-cons}
use Rattle.acl_people.proofs.NamedRows.{named_more}
use Rattle.acl_people.proofs.NotesInOrder.{sorted_without}

abbrev pub note : Named → ℕ → Note
note e place = record { id = e.1; place = place }

-- ---- one name more

notes_push : (t : Named → Bool) (n : ℕ) (es : List Named) (y : Named) → notes_from t n (es ++ y ∷ []) ≡ notes_from t n es ++ cond (t y) (note y (n + length es) ∷ []) []
notes_push t n [] y = ap (λ p. cond (t y) (note y p ∷ []) []) (omega arith)
notes_push t n (e ∷ es) y = by (t e) (notes_push t (n + 1) es y ∙ ap (λ p. notes_from t (n + 1) es ++ cond (t y) (note y p ∷ []) []) (omega arith))
  where
    by : (b : Bool) → notes_from t (n + 1) (es ++ y ∷ []) ≡ notes_from t (n + 1) es ++ cond (t y) (note y (n + length (e ∷ es)) ∷ []) []
        → cond b (note e n ∷ notes_from t (n + 1) (es ++ y ∷ [])) (notes_from t (n + 1) (es ++ y ∷ []))
        ≡ cond b (note e n ∷ notes_from t (n + 1) es) (notes_from t (n + 1) es) ++ cond (t y) (note y (n + length (e ∷ es)) ∷ []) []
    by true h = ap (λ l. note e n ∷ l) h
    by false h = h

notes_more : (digits : Bool) (es : List Named) (y : Named) (place : ℕ) → place ≡ length es
    → notes_of digits es ++ cond (has_note digits y) (note y place ∷ []) [] ≡ notes_of digits (es ++ y ∷ [])
notes_more digits es y place last =
    let from_zero : place ≡ 0 + length es = omega (arith, last) in
    ap (λ p. notes_of digits es ++ cond (has_note digits y) (note y p ∷ []) []) from_zero ∙ sym (notes_push (has_note digits) 0 es y)

-- one row more
pub noted_row : {R : Type 0} (named : R → Named) (digits : Bool) (rows : List R) (i : ℕ) (row : R) → i < length rows → row ≡ get_or rows i row
    → notes_of digits (map named (take i rows)) ++ cond (has_note digits (named row)) (note (named row) i ∷ []) [] ≡ notes_of digits (map named (take (i + 1) rows))
noted_row named digits rows i row lt is =
    let long : length (map named (take i rows)) ≡ length (take i rows) = length-map (take i rows) named in
    notes_more digits (map named (take i rows)) (named row) i (omega (arith, long, length-take-le i rows (omega arith)))
    ∙ ap (λ es. notes_of digits es) (named_more named rows i row lt is)

pub noted_more : (digits : Bool) (es : List Named) (y : Named) (place : ℕ) (old new : List Note) → place ≡ length es → AreSorted (notes_of digits es) old
    → AreSorted (old ++ cond (has_note digits y) (note y place ∷ []) []) new → AreSorted (notes_of digits (es ++ y ∷ [])) new
noted_more digits es y place old new last was is = record {
  in_order = is.in_order;
  same = λ id.
      is.same id
      ∙ filter-append (is_for id) old more
      ∙ ap (λ l. l ++ filter (is_for id) more) (was.same id)
      ∙ sym (filter-append (is_for id) (notes_of digits es) more)
      ∙ ap (filter (is_for id)) (notes_more digits es y place last);
}
  where
    more : List Note
    more = cond (has_note digits y) (note y place ∷ []) []

-- ---- one name less

kept : (gone : ℕ) (n : Note) (ns : List Note) → (n.place ≡ gone → ⊥) → without_place gone (n ∷ ns) ≡ lowered gone n ∷ without_place gone ns
kept gone n ns apart =
    ap (λ b. map (lowered gone) (cond (not b) (n ∷ filter (λ m. not (m.place == gone)) ns) (filter (λ m. not (m.place == gone)) ns))) (ne_eqb n.place gone apart)

-- the names after the one that is removed
moved_down : (t : Named → Bool) (gone n : ℕ) → gone ≤ n → (es : List Named) → without_place gone (notes_from t (n + 1) es) ≡ notes_from t n es
moved_down t gone n le [] = refl
moved_down t gone n le (e ∷ es) = by (t e) (moved_down t gone (n + 1) (omega arith) es)
  where
    low : lowered gone (note e (n + 1)) ≡ note e n
    low =
        ap (λ b. note e (if b then (n + 1) - 1 else n + 1)) (lt-ltb gone (n + 1) (omega arith))
        ∙ ap (note e) (omega arith)

    by : (b : Bool) → without_place gone (notes_from t (n + 1 + 1) es) ≡ notes_from t (n + 1) es
        → without_place gone (cond b (note e (n + 1) ∷ notes_from t (n + 1 + 1) es) (notes_from t (n + 1 + 1) es)) ≡ cond b (note e n ∷ notes_from t (n + 1) es) (notes_from t (n + 1) es)
    by true h = kept gone (note e (n + 1)) (notes_from t (n + 1 + 1) es) (λ p. omega (arith, p, le)) ∙ (λ i. low i ∷ h i)
    by false h = h

removed : (t : Named → Bool) (n at : ℕ) (es : List Named) → without_place (n + at) (notes_from t n es) ≡ notes_from t n (remove es at)
removed t n zero [] = refl
removed t n (suc at) [] = refl
removed t n zero (e ∷ es) = by (t e) (moved_down t (n + 0) n (omega arith) es)
  where
    rest : List Note
    rest = filter (λ m. not (m.place == (n + 0))) (notes_from t (n + 1) es)

    by : (b : Bool) → without_place (n + 0) (notes_from t (n + 1) es) ≡ notes_from t n es
        → without_place (n + 0) (cond b (note e n ∷ notes_from t (n + 1) es) (notes_from t (n + 1) es)) ≡ notes_from t n es
    by true h = ap (λ b. map (lowered (n + 0)) (cond (not b) (note e n ∷ rest) rest)) (eq-eqb n (n + 0) (omega arith)) ∙ h
    by false h = h
removed t n (suc at) (e ∷ es) = by (t e) (ap (λ g. without_place g (notes_from t (n + 1) es)) later ∙ removed t (n + 1) at es)
  where
    later : n + suc at ≡ n + 1 + at
    later = omega arith

    same : lowered (n + suc at) (note e n) ≡ note e n
    same = ap (λ b. note e (if b then n - 1 else n)) (le-ltb (n + suc at) n (omega arith))

    by : (b : Bool) → without_place (n + suc at) (notes_from t (n + 1) es) ≡ notes_from t (n + 1) (remove es at)
        → without_place (n + suc at) (cond b (note e n ∷ notes_from t (n + 1) es) (notes_from t (n + 1) es))
        ≡ cond b (note e n ∷ notes_from t (n + 1) (remove es at)) (notes_from t (n + 1) (remove es at))
    by true h = kept (n + suc at) (note e n) (notes_from t (n + 1) es) (λ p. omega (arith, p)) ∙ (λ i. same i ∷ h i)
    by false h = h

pub noted_without : (digits : Bool) (es : List Named) (gone : ℕ) (old new : List Note) (left : List Named) → AreSorted (notes_of digits es) old
    → new ≡ without_place gone old → left ≡ remove es gone
    → AreSorted (notes_of digits left) new
noted_without digits es gone old new left was are is =
    subst (λ ns. AreSorted (notes_of digits left) ns) (sym are)
    (subst (λ ns. AreSorted ns (without_place gone old)) (without ∙ ap (notes_of digits) (sym is)) (sorted_without gone (notes_of digits es) old was))
  where
    without : without_place gone (notes_of digits es) ≡ notes_of digits (remove es gone)
    without = ap (λ g. without_place g (notes_of digits es)) (omega arith) ∙ removed (has_note digits) 0 gone es

-- ---- the first of an id

noted_from : (t : Named → Bool) (id n : ℕ) (es : List Named) → first_place id (notes_from t n es) ≡ option_map (λ i. i + n) (position (λ e. is_id id e && t e) es)
noted_from t id n [] = refl
noted_from t id n (e ∷ es) = by (t e) (noted_from t id (n + 1) es ∙ later first) ∙ ap (λ o. option_map (λ i. i + n) o) (sym (position-cons (λ f. is_id id f && t f) e es))
  where
    first : Option ℕ
    first = position (λ f. is_id id f && t f) es

    next : Option ℕ
    next = option_map (λ k. k + 1) first

    later : (o : Option ℕ) → option_map (λ i. i + (n + 1)) o ≡ option_map (λ i. i + n) (option_map (λ k. k + 1) o)
    later None = refl
    later (Some i) = ap (λ k. Some k) (omega arith)

    rest : List Note
    rest = notes_from t (n + 1) es

    by_id : (a : Bool) → first_place id rest ≡ option_map (λ i. i + n) next
        → option_map (λ (m : Note). m.place) (cond a (Some (note e n)) (find (is_for id) rest)) ≡ option_map (λ i. i + n) (cond (a && true) (Some 0) next)
    by_id true h = ap (λ k. Some k) (omega arith)
    by_id false h = h

    none : (a : Bool) → next ≡ cond (a && false) (Some 0) next
    none true = refl
    none false = refl

    by : (b : Bool) → first_place id rest ≡ option_map (λ i. i + n) next
        → first_place id (cond b (note e n ∷ rest) rest) ≡ option_map (λ i. i + n) (cond (is_id id e && b) (Some 0) next)
    by true h = by_id (is_id id e) h
    by false h = h ∙ ap (λ o. option_map (λ i. i + n) o) (none (is_id id e))

pub noted_first : (digits : Bool) (id : ℕ) (es : List Named) → first_place id (notes_of digits es) ≡ position (λ e. is_id id e && has_note digits e) es
noted_first digits id es = noted_from (has_note digits) id 0 es ∙ from_none (position (λ e. is_id id e && has_note digits e) es)
  where
    from_none : (o : Option ℕ) → option_map (λ i. i + 0) o ≡ o
    from_none None = refl
    from_none (Some i) = ap (λ k. Some k) (omega arith)

and_true : (b : Bool) → (b && true) ≡ b
and_true true = refl
and_true false = refl

pub noted_first_of_all : (id : ℕ) (es : List Named) → first_place id (notes_of true es) ≡ position (is_id id) es
noted_first_of_all id es = noted_first true id es ∙ (λ i. position (λ e. and_true (is_id id e) i) es)
