-- Lemmas on the text of a unit.
use Rattle.std.proofs.Common.{◌≡◌, ◌<◌, ◌≤◌, ◌+◌, ℕ, Bool, true, false, not, cond, List, [], ◌∷◌, ◌++◌, refl, sym, ap, ◌∙◌, append_assoc, append-nil, length, length-append, arith, Option, None, Some}
use Rattle.std.proofs.Common.{zero, suc, ⊎_elim, subst, take, filter, get_or, slice_index, eqb, add-zero, add_assoc, get_or-take, length-take-le}
use Rattle.std.proofs.lemmas.List.{take_more}
use Rattle.std.specs.Prelude.{nat_le, option_map, IfSome}
use Rattle.std.proofs.lemmas.Bool.{le-leb, eqb-true, cases_Bool}
use Rattle.std.proofs.lemmas.Bool.Decides.{nat_tests}
use Rattle.facl_script.specs.Lines.{lines_of, HasNoLineFeed, spelled}
use Rattle.facl_script.specs.Units.{Open, within, outside, unended, cut, is_end, with_text_line, more_text, ended_text, closed, full_units}
use Rattle.facl_script.specs.Pieces.{line_feeds}
use Rattle.facl_script.specs.ReadText.{HoldsText, IsTextFound, IsTextPart, IsLastFeed, end_between}
use Rattle.memchr.specs.Find.{OccursAt, Nowhere, NoneBefore, IsLastByte, is_byte}
use Rattle.facl_script.specs.declared.text.TextFound.{TextFound}
use Rattle.facl_script.specs.declared.text.TextFound.TheVariants.{Absent, Whole, TooLong, Unended, Lost}
use Rattle.facl_script.proofs.LineLemmas.{HasNoLineFeed-append, lines_of-ended, lines_of-rest, not_true}

-- a line of the text that doesn't end it
pub text_line : (asks : List ℕ → Bool) (o : Open) (n : ℕ) (line rest : List ℕ) → HasNoLineFeed line → is_end line ≡ false
    → cut asks (within o) n (lines_of ((line ++ 10 ∷ []) ++ rest)) ≡ cut asks (within (with_text_line o line)) (n + 1) (lines_of rest)
text_line asks o n line rest none e =
    ap (λ l. cut asks (within o) n (lines_of l)) (append_assoc line (10 ∷ []) rest) ∙ ap (cut asks (within o) n) (lines_of-ended line rest none) ∙ rw e refl

-- the line that ends it
pub text_end : (asks : List ℕ → Bool) (o : Open) (n : ℕ) (ended : Bool) (line rest : List ℕ) → HasNoLineFeed line → is_end line ≡ true → (ended ≡ false → (0 < length line) × (rest ≡ []))
    → cut asks (within o) n (lines_of (spelled line ended ++ rest)) ≡ closed o (ended_text o.text) ended ∷ cut asks outside (n + 1) (lines_of rest)
text_end asks o n true line rest none e last =
    ap (λ l. cut asks (within o) n (lines_of l)) (append_assoc line (10 ∷ []) rest) ∙ ap (cut asks (within o) n) (lines_of-ended line rest none) ∙ rw e refl
text_end asks o n false line rest none e last =
    rw ((last refl).1, append-nil line, lines_of-rest line none (last refl).0, e) refl

-- a last line that doesn't end it
pub text_breaks : (asks : List ℕ → Bool) (o : Open) (n : ℕ) (line : List ℕ) → HasNoLineFeed line → is_end line ≡ false → 0 < length line
    → cut asks (within o) n (lines_of line) ≡ closed o unended false ∷ []
text_breaks asks o n line none e some = rw (lines_of-rest line none some, e) refl

-- what has no LF makes no full unit
pub no_unit : (asks : List ℕ → Bool) (tail : List ℕ) → HasNoLineFeed tail → (o : Open) (n : ℕ) → full_units (cut asks (within o) n (lines_of tail)) ≡ []
no_unit asks [] h o n = refl
no_unit asks (b ∷ tail) h o n = ap (λ ls. full_units (cut asks (within o) n ls)) (lines_of-rest (b ∷ tail) h (omega arith)) ∙ cases (is_end (b ∷ tail))
  where
    cases : (t : Bool) → full_units (cond t (closed o (ended_text o.text) false ∷ []) (closed o unended false ∷ [])) ≡ []
    cases true = refl
    cases false = refl

pub spelled_some : (text : List ℕ) (ended : Bool) → (ended ≡ false → 0 < length text) → 0 < length (spelled text ended)
spelled_some text true h = omega (arith, length-append text (10 ∷ []))
spelled_some text false h = h refl

-- a line that is too long ends no text
pub long_no_end : (text : List ℕ) → 65536 < length text → is_end text ≡ false
long_no_end [] h = refl
long_no_end (b ∷ []) h = absurd (omega (arith, h))
long_no_end (b ∷ c ∷ text) h = refl

pub of_not : (b : Bool) → not b ≡ true → b ≡ false
of_not true h = sym h
of_not false h = refl

pub of_not_not : (b : Bool) → not b ≡ false → b ≡ true
of_not_not true h = refl
of_not_not false h = sym h

-- what is kept of a text when its line `.` is read
pub holds_ended : (found : TextFound) (held : List ℕ) (content : Option (List ℕ)) → HoldsText found held content → IsTextFound found held (ended_text content)
holds_ended Whole held content h = ap ended_text h
holds_ended TooLong held content h = ap ended_text h
holds_ended Lost held content h = tt
holds_ended Absent held content h = absurd h
holds_ended Unended held content h = absurd h

pub more_text_long : (content : Option (List ℕ)) (line : List ℕ) → 65536 < length line → more_text content line ≡ None
more_text_long None line h = refl
more_text_long (Some text) line h = rw (lt_leb (length line) h) refl
  where
    lt_leb : (n : ℕ) → 65536 < n → nat_le n 65536 ≡ false
    lt_leb n h = grind (arith, nat_tests)

pub more_text_short : (text line : List ℕ) → length line ≤ 65536 → more_text (Some text) line ≡ Some (text ++ (line ++ 10 ∷ []))
more_text_short text line h = rw (le-leb (length line) 65536 h) refl

-- the unit with this text so far
abbrev pub so_far : ℕ → List ℕ → Option (List ℕ) → Open
so_far number line text = record { number = number; line = line; text = text }

-- ---- lines that are taken at once

pub part_none : IsTextPart [] 0
part_none = record {
  splits = λ asks number line content n rest i. cut asks (within (record { number = number; line = line; text = sym (same content) i })) (sym (add-zero n) i) (lines_of rest);
  few = omega arith;
}
  where
    same : (content : Option (List ℕ)) → option_map (λ t. t ++ []) content ≡ content
    same None = refl
    same (Some t) = ap Some (append-nil t)

pub part_more : (part line : List ℕ) (lines : ℕ) → IsTextPart part lines → HasNoLineFeed line → is_end line ≡ false → length line ≤ 65536
    → IsTextPart (part ++ (line ++ 10 ∷ [])) (lines + 1)
part_more part line lines p none goes short = record {
  splits = λ asks number l content n rest.
      ap (λ bs. cut asks (within (so_far number l content)) n (lines_of bs)) (append_assoc part (line ++ 10 ∷ []) rest)
      ∙ p.splits asks number l content n ((line ++ 10 ∷ []) ++ rest)
      ∙ text_line asks (so_far number l (option_map (λ t. t ++ part) content)) (n + lines) line rest none goes
      ∙ (λ i. cut asks (within (so_far number l (more content i))) (add_assoc n lines 1 i) (lines_of rest));
  few = omega (arith, p.few, length-append part (line ++ 10 ∷ []), length-append line (10 ∷ []));
}
  where
    more : (content : Option (List ℕ)) → more_text (option_map (λ t. t ++ part) content) line ≡ option_map (λ t. t ++ (part ++ (line ++ 10 ∷ []))) content
    more None = refl
    more (Some t) = more_text_short (t ++ part) line short ∙ ap Some (append_assoc t part (line ++ 10 ∷ []))

-- ---- where whole lines of a text go, of which none ends it

-- how many LFs there are with one byte more
feeds_more : (b : ℕ) (bytes : List ℕ) → line_feeds (b ∷ bytes) ≡ cond (eqb b 10) 1 0 + line_feeds bytes
feeds_more b bytes = by (eqb b 10)
  where
    by : (is : Bool) → length (cond is (b ∷ filter (λ x. eqb x 10) bytes) (filter (λ x. eqb x 10) bytes)) ≡ cond is 1 0 + length (filter (λ x. eqb x 10) bytes)
    by true = omega arith
    by false = omega arith

-- the line `.` is between no two LFs
abbrev pub Never : List ℕ → Type 0
Never bytes = (k : ℕ) → OccursAt bytes end_between k → ⊥

never_after : (b : ℕ) (bytes : List ℕ) → Never (b ∷ bytes) → Never bytes
never_after b bytes never k occurs = never (suc k) (record {
  fits = omega (arith, occurs.fits);
  reads = λ j lt. let next : suc k + j ≡ suc (k + j) = omega arith in ap (slice_index (b ∷ bytes)) next ∙ occurs.reads j lt;
})

never_past : (front bytes : List ℕ) → Never (front ++ bytes) → Never bytes
never_past [] bytes never = never
never_past (b ∷ front) bytes never = never_past front bytes (never_after b (front ++ bytes) never)

-- a line after an LF is not `.` where that is between no two LFs
goes_on : (line rest : List ℕ) → HasNoLineFeed line → Never (10 ∷ (line ++ (10 ∷ rest))) → is_end line ≡ false
goes_on [] rest none never = refl
goes_on (b ∷ c ∷ line) rest none never = refl
goes_on (b ∷ []) rest none never = not_true (eqb b 46) (λ is. never 0 (record { fits = fits; reads = reads (eqb-true b 46 is) }))
  where
    fits : 3 ≤ suc (suc (suc (length rest)))
    fits = omega arith

    reads : b ≡ 46 → (j : ℕ) → j < 3 → slice_index (10 ∷ b ∷ 10 ∷ rest) (0 + j) ≡ slice_index end_between j
    reads is zero lt = refl
    reads is (suc zero) lt = is
    reads is (suc (suc zero)) lt = refl
    reads is (suc (suc (suc j))) lt = absurd (omega (arith, lt))

-- the lines of `line`, of which some bytes come before, and of `body`, with an LF at the end
part_lines : (front line body : List ℕ) (lines : ℕ) → IsTextPart front lines → HasNoLineFeed line → length line + length body ≤ 65536
    → Never (10 ∷ (line ++ (body ++ 10 ∷ []))) → IsTextPart (front ++ (line ++ (body ++ 10 ∷ []))) (lines + line_feeds (body ++ 10 ∷ []))
part_lines front line [] lines part none short never = part_more front line lines part none (goes_on line [] none never) (omega (arith, short))
part_lines front line (b ∷ body) lines part none short never =
    let tail : List ℕ = body ++ 10 ∷ [] in
    let more : line_feeds (b ∷ tail) ≡ cond (eqb b 10) 1 0 + line_feeds tail = feeds_more b tail in
    ⊎_elim (λ yes.
    let feed : b ≡ 10 = eqb-true b 10 yes in
    let here : Never (10 ∷ (line ++ (10 ∷ tail))) = subst (λ (x : ℕ). Never (10 ∷ (line ++ (x ∷ tail)))) feed never in
    let next : List ℕ = front ++ (line ++ 10 ∷ []) in
    let one : IsTextPart next (lines + 1) = part_more front line lines part none (goes_on line tail none here) (omega (arith, short)) in
    let all : IsTextPart (next ++ tail) ((lines + 1) + line_feeds tail) = part_lines next [] body (lines + 1) one tt (omega (arith, short)) (never_past (10 ∷ line) (10 ∷ tail) here) in
    let whole : next ++ tail ≡ front ++ (line ++ (b ∷ tail)) =
    append_assoc front (line ++ 10 ∷ []) tail ∙ ap (λ l. front ++ l) (append_assoc line (10 ∷ []) tail) ∙ ap (λ (x : ℕ). front ++ (line ++ (x ∷ tail))) (sym feed) in
    let count : (lines + 1) + line_feeds tail ≡ lines + line_feeds (b ∷ tail) = let n : line_feeds (b ∷ tail) ≡ 1 + line_feeds tail = more
    ∙ ap (λ t. cond t 1 0 + line_feeds tail) yes in omega (arith, n) in
    subst (λ l. IsTextPart l (lines + line_feeds (b ∷ tail))) whole (subst (λ (n : ℕ). IsTextPart (next ++ tail) n) count all))
    (λ no.
    let whole : (line ++ b ∷ []) ++ tail ≡ line ++ (b ∷ tail) = append_assoc line (b ∷ []) tail in
    let all : IsTextPart (front ++ ((line ++ b ∷ []) ++ tail)) (lines + line_feeds tail) =
    part_lines front (line ++ b ∷ []) body lines part (HasNoLineFeed-append line (b ∷ []) none (no, tt)) (omega (arith, short, length-append line (b ∷ [])))
    (subst (λ l. Never (10 ∷ l)) (sym whole) never) in
    let count : lines + line_feeds tail ≡ lines + line_feeds (b ∷ tail) = let n : line_feeds (b ∷ tail) ≡ 0 + line_feeds tail = more ∙ ap (λ t. cond t 1 0 + line_feeds tail) no in omega (arith, n) in
    subst (λ l. IsTextPart (front ++ l) (lines + line_feeds (b ∷ tail))) whole (subst (λ (n : ℕ). IsTextPart (front ++ ((line ++ b ∷ []) ++ tail)) n) count all))
    (cases_Bool (eqb b 10))

-- a piece that does not begin with the line `.` has none between two LFs where it is cut, nor does its front
never_cut : (piece : List ℕ) (at : ℕ) → IsLastFeed piece at → (OccursAt piece (46 ∷ 10 ∷ []) 0 → ⊥) → Never (10 ∷ take (at + 1) piece)
never_cut piece at last first zero occurs =
    let long : length (take (at + 1) piece) ≡ at + 1 = length-take-le (at + 1) piece (omega (arith, last.within)) in
    let fits : 3 ≤ suc (length (take (at + 1) piece)) = occurs.fits in
    let a : get_or piece 0 0 ≡ 46 = sym (get_or-take (at + 1) piece 0 0 (omega arith)) ∙ occurs.reads 1 (omega arith) in
    let b : get_or piece 1 0 ≡ 10 = sym (get_or-take (at + 1) piece 1 0 (omega (arith, fits, long))) ∙ occurs.reads 2 (omega arith) in
    first (record { fits = omega (arith, fits, long, last.within); reads = reads a b })
  where
    reads : get_or piece 0 0 ≡ 46 → get_or piece 1 0 ≡ 10 → (j : ℕ) → j < 2 → slice_index piece (0 + j) ≡ slice_index (46 ∷ 10 ∷ []) j
    reads a b zero lt = a
    reads a b (suc zero) lt = b
    reads a b (suc (suc j)) lt = absurd (omega (arith, lt))
never_cut piece at last first (suc k) occurs =
    let part : List ℕ = take (at + 1) piece in
    let long : length part ≡ at + 1 = length-take-le (at + 1) piece (omega (arith, last.within)) in
    let fits : suc k + 3 ≤ suc (length part) = occurs.fits in
    last.before k (omega (arith, fits, long)) (record {
      fits = omega (arith, fits, long, last.within);
      reads = λ j lt.
          let short : j < 3 = lt in
          let next : suc (k + j) ≡ suc k + j = omega arith in
          sym (get_or-take (at + 1) piece (k + j) 0 (omega (arith, fits, long, short))) ∙ ap (slice_index (10 ∷ part)) next ∙ occurs.reads j lt;
    })

-- what is taken up to the last LF
pub part_cut : (piece : List ℕ) (at : ℕ) → IsLastFeed piece at → (OccursAt piece (46 ∷ 10 ∷ []) 0 → ⊥) → length piece ≤ 65536
    → IsTextPart (take (at + 1) piece) (line_feeds (take (at + 1) piece))
part_cut piece at last first short =
    let body : List ℕ = take at piece in
    let is : take (at + 1) piece ≡ body ++ 10 ∷ [] = take_more piece at 0 last.within ∙ ap (λ (x : ℕ). body ++ x ∷ []) last.feed in
    let long : length body ≡ at = length-take-le at piece (omega (arith, last.within)) in
    let none : 0 + line_feeds (body ++ 10 ∷ []) ≡ line_feeds (body ++ 10 ∷ []) = omega arith in
    subst (λ l. IsTextPart l (line_feeds l)) (sym is)
    (subst (λ (n : ℕ). IsTextPart (body ++ 10 ∷ []) n) none
    (part_lines [] [] body 0 part_none tt (omega (arith, long, last.within, short)) (subst (λ l. Never (10 ∷ l)) is (never_cut piece at last first))))

-- the LF before the line `.`, or else the last one
pub feed_before : (piece : List ℕ) (at : ℕ) → NoneBefore (OccursAt piece end_between) 0 (length piece + 1) at → OccursAt piece end_between at → IsLastFeed piece at
feed_before piece at none occurs =
    let fits : at + 3 ≤ length piece = occurs.fits in
    let here : at ≡ at + 0 = omega arith in
    record {
      within = omega (arith, fits);
      feed = ap (slice_index piece) here ∙ occurs.reads 0 (omega arith);
      before = λ k lt. none.before k (omega arith) lt;
    }

pub feed_at_end : (piece : List ℕ) (found : Option ℕ) → Nowhere (OccursAt piece end_between) 0 (length piece + 1) → IsLastByte (is_byte 10) piece found → IfSome found (IsLastFeed piece)
feed_at_end piece None nowhere last = tt
feed_at_end piece (Some at) nowhere last = record {
  within = last.0.high;
  feed = eqb-true (slice_index piece at) 10 last.1;
  before = λ k lt. nowhere k (omega arith) (omega (arith, lt, last.0.high));
}
