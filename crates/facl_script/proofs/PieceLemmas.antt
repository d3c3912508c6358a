-- The units of a script spell the script.
use Rattle.std.proofs.Common.{◌≡◌, ◌<◌, ◌+◌, inl, inr, ℕ, Bool, true, false, cond, ◌&&◌, List, [], ◌∷◌, ◌++◌, length, filter, Option, None, Some, refl, sym, ap}
use Rattle.std.proofs.Common.{◌∙◌, subst, append_assoc, append-nil, length-append, arith, true≢false}
use Rattle.std.specs.Prelude.{nat_le, ◌==◌}
use Rattle.std.specs.List.{flat_map, list_all}
use Rattle.std.proofs.lemmas.Bool.{eqb-true}
use Rattle.std.proofs.lemmas.List.Elements.{filter-append}
use Rattle.std.proofs.lemmas.List.Folds.{list_all-append}
use Rattle.std.proofs.lemmas.Grind.{flat_map-append}
use Rattle.facl_script.specs.Limits.{line_limit}
use Rattle.facl_script.specs.Lines.{Line, onto, lines_of, HasNoLineFeed, spelled}
use Rattle.facl_script.specs.Units.{takes_text, whole, too_long, is_end, more_text, ended_text, opened, with_text_line, closed, outside, within, cut, units_of}
use Rattle.facl_script.proofs.TextLemmas.{so_far, spelled_some}
use Rattle.facl_script.proofs.UnitLemmas.{alone}
use Rattle.facl_script.specs.Pieces.{end_line, with_line_feeds, AreTextLines, text_of, line_feeds, AreUnits}

-- lines, as they are in the script
abbrev all_spelled : List Line → List ℕ
all_spelled ls = flat_map (λ (l : Line). spelled l.bytes l.ended) ls

-- no line has an LF in it, and only the last may lack one after it
abbrev AreLines : List Line → Type 0
AreLines [] = Unit {0}
AreLines (l ∷ ls) = HasNoLineFeed l.bytes × (l.ended ≡ false → (0 < length l.bytes) × (ls ≡ [])) × AreLines ls

lines_are : (bs : List ℕ) → AreLines (lines_of bs)
lines_are [] = tt
lines_are (b ∷ bs) = by_test (b == 10) refl (lines_of bs) (lines_are bs)
  where
    by_test : (t : Bool) → (b == 10) ≡ t → (ls : List Line) → AreLines ls → AreLines (cond t (record { bytes = []; ended = true } ∷ ls) (onto b ls))
    by_test true e ls h = (tt, (λ f. absurd (true≢false f)), h)
    by_test false e [] h = ((e, tt), (λ f. (omega arith, refl)), tt)
    by_test false e (l ∷ ls) h = ((e, h.0), (λ f. (omega arith, (h.1 f).1)), h.2)

spelled_more : (b : ℕ) (text : List ℕ) (ended : Bool) → spelled (b ∷ text) ended ≡ b ∷ spelled text ended
spelled_more b text true = refl
spelled_more b text false = refl

lines_spell : (bs : List ℕ) → all_spelled (lines_of bs) ≡ bs
lines_spell [] = refl
lines_spell (b ∷ bs) = by_test (b == 10) refl (lines_of bs) (lines_spell bs)
  where
    by_test : (t : Bool) → (b == 10) ≡ t → (ls : List Line) → all_spelled ls ≡ bs → all_spelled (cond t (record { bytes = []; ended = true } ∷ ls) (onto b ls)) ≡ b ∷ bs
    by_test true e ls h = ap (λ l. 10 ∷ l) h ∙ ap (λ c. c ∷ bs) (sym (eqb-true b 10 e))
    by_test false e [] h = ap (λ l. b ∷ l) h
    by_test false e (l ∷ ls) h = ap (λ s. s ++ all_spelled ls) (spelled_more b l.bytes l.ended) ∙ ap (λ l. b ∷ l) h

-- numbers of LFs

pub feeds_append : (a b : List ℕ) → line_feeds (a ++ b) ≡ line_feeds a + line_feeds b
feeds_append a b = ap length (filter-append (λ (c : ℕ). c == 10) a b) ∙ length-append (filter (λ (c : ℕ). c == 10) a) (filter (λ (c : ℕ). c == 10) b)

feeds_none : (line : List ℕ) → HasNoLineFeed line → line_feeds line ≡ 0
feeds_none [] h = refl
feeds_none (b ∷ line) h = rw h.0 (feeds_none line h.1)

pub feeds_line : (line : List ℕ) → HasNoLineFeed line → line_feeds (spelled line true) ≡ 1
feeds_line line h = omega (arith, feeds_append line (10 ∷ []), feeds_none line h)

pub feeds_lines : (lines : List (List ℕ)) → AreTextLines lines → line_feeds (with_line_feeds lines) ≡ length lines
feeds_lines [] h = refl
feeds_lines (line ∷ lines) h = omega (arith, feeds_append (spelled line true) (with_line_feeds lines), feeds_line line h.0.0, feeds_lines lines h.1)

-- the line `.`

pub is_end_line : (line : List ℕ) → is_end line ≡ true → line ≡ end_line
is_end_line [] h = absurd (true≢false (sym h))
is_end_line (b ∷ []) h = ap (λ c. c ∷ []) (eqb-true b 46 h)
is_end_line (b ∷ c ∷ line) h = absurd (true≢false (sym h))

no_end_line : (line : List ℕ) → is_end line ≡ false → line ≡ end_line → ⊥
no_end_line line h e = true≢false (sym (ap is_end e) ∙ h)

-- the text so far

abbrev is_short : List ℕ → Bool
is_short line = nat_le (length line) line_limit

abbrev pub content : List (List ℕ) → Option (List ℕ)
content lines = cond (list_all is_short lines) (Some (with_line_feeds lines)) None

pub content_ended : (lines : List (List ℕ)) → ended_text (content lines) ≡ text_of lines
content_ended lines = by_test (list_all is_short lines)
  where
    by_test : (t : Bool) → ended_text (cond t (Some (with_line_feeds lines)) None) ≡ cond t (whole (with_line_feeds lines)) too_long
    by_test true = refl
    by_test false = refl

more_lines : (lines : List (List ℕ)) (line : List ℕ) → with_line_feeds (lines ++ line ∷ []) ≡ with_line_feeds lines ++ spelled line true
more_lines lines line = flat_map-append (λ (l : List ℕ). spelled l true) lines (line ∷ []) ∙ ap (λ l. with_line_feeds lines ++ l) (append-nil (spelled line true))

pub content_more : (lines : List (List ℕ)) (line : List ℕ) → more_text (content lines) line ≡ content (lines ++ line ∷ [])
content_more lines line = rw (list_all-append is_short lines (line ∷ []), more_lines lines line) (by_tests (list_all is_short lines) (is_short line) refl)
  where
    by_tests : (a t : Bool) → is_short line ≡ t → more_text (cond a (Some (with_line_feeds lines)) None) line ≡ cond (a && (t && true)) (Some (with_line_feeds lines ++ spelled line true)) None
    by_tests false t e = refl
    by_tests true true e = rw e refl
    by_tests true false e = rw e refl

more_are : (lines : List (List ℕ)) (line : List ℕ) → AreTextLines lines → HasNoLineFeed line → is_end line ≡ false → AreTextLines (lines ++ line ∷ [])
more_are [] line h feed e = ((feed, no_end_line line e), tt)
more_are (l ∷ lines) line h feed e = (h.0, more_are lines line h.1 feed e)

-- After the last LF nothing comes.
rest_units : (asks : List ℕ → Bool) (ended : Bool) (ls : List Line) (m k : ℕ) → (ended ≡ true → m ≡ k) → (ended ≡ false → ls ≡ [])
    → AreUnits asks k (cut asks outside k ls) (all_spelled ls) → AreUnits asks m (cut asks outside k ls) (all_spelled ls)
rest_units asks true ls m k number last h = rw (number refl) h
rest_units asks false ls m k number last h = rw (last refl) refl

-- Lines that begin with a unit's line, and lines in a unit's text, of which these came before.
Outside : (asks : List ℕ → Bool) → List Line → Type 0
Outside asks ls = (k : ℕ) → AreUnits asks k (cut asks outside k ls) (all_spelled ls)

Inside : (asks : List ℕ → Bool) → List Line → Type 0
Inside asks ls = (n k : ℕ) (line : List ℕ) (lines : List (List ℕ)) → HasNoLineFeed line → takes_text asks line ≡ true → AreTextLines lines → k ≡ n + (1 + length lines)
    → AreUnits asks n (cut asks (within (so_far n line (content lines))) k ls) ((spelled line true ++ with_line_feeds lines) ++ all_spelled ls)

inside_end : (asks : List ℕ → Bool) → Inside asks []
unfolding Inside
inside_end asks n k line lines feed takes are number = (
  spelled line true ++ with_line_feeds lines,
  [],
  refl,
  omega (arith, length-append (line ++ 10 ∷ []) (with_line_feeds lines), length-append line (10 ∷ [])),
  (λ f. refl),
  refl,
  inr (inr (record {
    line = line;
    no_line_feed = feed;
    takes = takes;
    line_is = refl;
    text_is = refl;
    full_is = refl;
    piece_is = inr (with_line_feeds lines, record { lines = lines; last = []; lines_are = ((tt, no_end_line [] refl), are); bytes_are = sym (append-nil (with_line_feeds lines)) }, refl);
  })),
  refl,
)

outside_line : (asks : List ℕ → Bool) (text : List ℕ) (ended : Bool) (ls : List Line) → HasNoLineFeed text → (ended ≡ false → (0 < length text) × (ls ≡ []))
    → takes_text asks text ≡ false → Outside asks ls → (k : ℕ)
    → AreUnits asks k (alone k text ended ∷ cut asks outside (k + 1) ls) (spelled text ended ++ all_spelled ls)
unfolding Outside
outside_line asks text ended ls feed last takes ih k = (
  spelled text ended,
  all_spelled ls,
  refl,
  spelled_some text ended (λ f. (last f).0),
  (λ f. ap all_spelled (last f).1),
  refl,
  inl (record { line = text; no_line_feed = feed; takes = takes; line_is = refl; text_is = refl; piece_is = refl }),
  rest_units asks ended ls (k + line_feeds (spelled text ended)) (k + 1) (λ t. rw t (ap (λ m. k + m) (feeds_line text feed))) (λ f. (last f).1) (ih (k + 1)),
)

outside_opens : (asks : List ℕ → Bool) (text : List ℕ) (ended : Bool) (ls : List Line) → HasNoLineFeed text → (ended ≡ false → (0 < length text) × (ls ≡ []))
    → takes_text asks text ≡ true → Inside asks ls → (k : ℕ)
    → AreUnits asks k (cut asks (within (opened k text)) (k + 1) ls) (spelled text ended ++ all_spelled ls)
unfolding Inside
outside_opens asks text true ls feed last takes ih k =
    let h : AreUnits asks k (cut asks (within (opened k text)) (k + 1) ls) ((spelled text true ++ []) ++ all_spelled ls) = ih k (k + 1) text [] feed takes tt (omega arith) in
    subst (λ (bytes : List ℕ). AreUnits asks k (cut asks (within (opened k text)) (k + 1) ls) (bytes ++ all_spelled ls)) (append-nil (spelled text true)) h
outside_opens asks text false ls feed last takes ih k =
    rw (last refl).1 (
      text,
      [],
      refl,
      (last refl).0,
      (λ f. refl),
      refl,
      inr (inr (record { line = text; no_line_feed = feed; takes = takes; line_is = refl; text_is = refl; full_is = refl; piece_is = inl refl })),
      refl,
    )

outside_more : (asks : List ℕ → Bool) (text : List ℕ) (ended : Bool) (ls : List Line) → HasNoLineFeed text → (ended ≡ false → (0 < length text) × (ls ≡ []))
    → Outside asks ls → Inside asks ls → Outside asks (record { bytes = text; ended = ended } ∷ ls)
unfolding Outside
outside_more asks text ended ls feed last out inn k = by_test (takes_text asks text) refl
  where
    by_test : (t : Bool) → takes_text asks text ≡ t → AreUnits asks k
        (cond t (cut asks (within (opened k text)) (k + 1) ls) (alone k text ended ∷ cut asks outside (k + 1) ls)) (spelled text ended ++ all_spelled ls)
    by_test true e = outside_opens asks text ended ls feed last e inn k
    by_test false e = outside_line asks text ended ls feed last e out k

inside_ends : (asks : List ℕ → Bool) (n k : ℕ) (line : List ℕ) (lines : List (List ℕ)) (text : List ℕ) (ended : Bool) (ls : List Line) → HasNoLineFeed line
    → takes_text asks line ≡ true → AreTextLines lines → k ≡ n + (1 + length lines)
    → text ≡ end_line → (ended ≡ false → ls ≡ []) → Outside asks ls
    → AreUnits asks n (closed (so_far n line (content lines)) (ended_text (content lines)) ended ∷ cut asks outside (k + 1) ls)
    ((spelled line true ++ with_line_feeds lines) ++ (spelled text ended ++ all_spelled ls))
unfolding Outside
inside_ends asks n k line lines text ended ls feed takes are number e last ih =
    let piece : List ℕ = spelled line true ++ (with_line_feeds lines ++ spelled end_line ended) in (
      piece,
      all_spelled ls,
      rw e (
          append_assoc (spelled line true) (with_line_feeds lines) (spelled end_line ended ++ all_spelled ls)
          ∙ ap (λ l. spelled line true ++ l) (sym (append_assoc (with_line_feeds lines) (spelled end_line ended) (all_spelled ls)))
          ∙ sym (append_assoc (spelled line true) (with_line_feeds lines ++ spelled end_line ended) (all_spelled ls))
          ),
      omega (arith, length-append (spelled line true) (with_line_feeds lines ++ spelled end_line ended), length-append line (10 ∷ [])),
      (λ f. ap all_spelled (last f)),
      refl,
      inr (inl (record { line = line; lines = lines; no_line_feed = feed; takes = takes; lines_are = are; line_is = refl; text_is = content_ended lines; piece_is = refl })),
      rest_units asks ended ls (n + line_feeds piece) (k + 1) (counted ended) last (ih (k + 1)),
    )
  where
    counted : (b : Bool) → b ≡ true → n + line_feeds (spelled line true ++ (with_line_feeds lines ++ spelled end_line b)) ≡ k + 1
    counted true t =
        omega (
          arith,
          number,
          feeds_append (spelled line true) (with_line_feeds lines ++ spelled end_line true),
          feeds_append (with_line_feeds lines) (spelled end_line true),
          feeds_line line feed,
          feeds_lines lines are,
          feeds_line end_line (refl, tt),
        )
    counted false t = absurd (true≢false (sym t))

inside_goes_on : (asks : List ℕ → Bool) (n k : ℕ) (line : List ℕ) (lines : List (List ℕ)) (text : List ℕ) (ended : Bool) (ls : List Line) → HasNoLineFeed line
    → takes_text asks line ≡ true → AreTextLines lines → k ≡ n + (1 + length lines)
    → HasNoLineFeed text → is_end text ≡ false → (ended ≡ false → (0 < length text) × (ls ≡ [])) → Inside asks ls
    → AreUnits asks n (cut asks (within (with_text_line (so_far n line (content lines)) text)) (k + 1) ls) ((spelled line true ++ with_line_feeds lines) ++ (spelled text ended ++ all_spelled ls))
unfolding Inside
inside_goes_on asks n k line lines text true ls feed takes are number text_feed e last ih =
    let h = ih n (k + 1) line (lines ++ text ∷ []) feed takes (more_are lines text are text_feed e) (omega (arith, number, length-append lines (text ∷ []))) in
    let same : (spelled line true ++ with_line_feeds (lines ++ text ∷ [])) ++ all_spelled ls ≡ (spelled line true ++ with_line_feeds lines) ++ (spelled text true ++ all_spelled ls) =
    ap (λ l. (spelled line true ++ l) ++ all_spelled ls) (more_lines lines text) ∙ ap (λ l. l ++ all_spelled ls) (sym (append_assoc (spelled line true) (with_line_feeds lines) (spelled text true)))
    ∙ append_assoc (spelled line true ++ with_line_feeds lines) (spelled text true) (all_spelled ls) in
    rw (content_more lines text, sym same) h
inside_goes_on asks n k line lines text false ls feed takes are number text_feed e last ih =
    rw (last refl).1 (
      spelled line true ++ (with_line_feeds lines ++ text),
      [],
      sym (append_assoc (spelled line true ++ with_line_feeds lines) text []) ∙ ap (λ l. l ++ []) (append_assoc (spelled line true) (with_line_feeds lines) text),
      omega (arith, length-append (spelled line true) (with_line_feeds lines ++ text), length-append line (10 ∷ [])),
      (λ f. refl),
      refl,
      inr (inr (record {
        line = line;
        no_line_feed = feed;
        takes = takes;
        line_is = refl;
        text_is = refl;
        full_is = refl;
        piece_is = inr (with_line_feeds lines ++ text, record { lines = lines; last = text; lines_are = ((text_feed, no_end_line text e), are); bytes_are = refl }, refl);
      })),
      refl,
    )

inside_more : (asks : List ℕ → Bool) (text : List ℕ) (ended : Bool) (ls : List Line) → HasNoLineFeed text → (ended ≡ false → (0 < length text) × (ls ≡ []))
    → Outside asks ls → Inside asks ls → Inside asks (record { bytes = text; ended = ended } ∷ ls)
unfolding Inside
inside_more asks text ended ls text_feed last out inn n k line lines feed takes are number = by_test (is_end text) refl
  where
    by_test : (t : Bool) → is_end text ≡ t
        → AreUnits asks n (cond t (closed (so_far n line (content lines)) (ended_text (content lines)) ended ∷ cut asks outside (k + 1) ls)
        (cut asks (within (with_text_line (so_far n line (content lines)) text)) (k + 1) ls))
        ((spelled line true ++ with_line_feeds lines) ++ (spelled text ended ++ all_spelled ls))
    by_test true e = inside_ends asks n k line lines text ended ls feed takes are number (is_end_line text e) (λ f. (last f).1) out
    by_test false e = inside_goes_on asks n k line lines text ended ls feed takes are number text_feed e last inn

outside_and_inside : (asks : List ℕ → Bool) (ls : List Line) → AreLines ls → Outside asks ls × Inside asks ls
unfolding Outside
outside_and_inside asks [] h = ((λ k. refl), inside_end asks)
outside_and_inside asks (l ∷ ls) h =
    let ih = outside_and_inside asks ls h.2 in
    (outside_more asks l.bytes l.ended ls h.0 h.1 ih.0 ih.1, inside_more asks l.bytes l.ended ls h.0 h.1 ih.0 ih.1)

pub are_units : (asks : List ℕ → Bool) (script : List ℕ) → AreUnits asks 1 (units_of asks script) script
unfolding Outside
are_units asks script = subst (λ (bytes : List ℕ). AreUnits asks 1 (units_of asks script) bytes) (lines_spell script) ((outside_and_inside asks (lines_of script) (lines_are script)).0 1)
