-- A script that units spell is cut into these units.
use Rattle.std.proofs.Common.{cond, length-append, true≢false, ◌≡◌, ◌<◌, ◌+◌, ◌⊎◌, inl, inr, ℕ, Bool, true, false, List, [], ◌∷◌, ◌++◌, length, Option, Some}
use Rattle.std.proofs.Common.{refl, sym, ap, ◌∙◌, subst, append_assoc, append-nil, arith, add-zero}
use Rattle.facl_script.specs.Lines.{lines_of, HasNoLineFeed, spelled}
use Rattle.facl_script.specs.Units.{takes_text, full_units, ScriptUnit, UnitText, none, unended, within_limit, is_end, ended_text, Open, opened, closed, outside, within, cut, units_of}
use Rattle.facl_script.proofs.TextLemmas.{so_far, text_line, text_end, text_breaks}
use Rattle.facl_script.proofs.UnitLemmas.{unit_alone, unit_opens, unit_breaks}
use Rattle.facl_script.specs.Pieces.{end_line, with_line_feeds, AreTextLines, IsLine, IsLineWithText, IsTextWithoutEnd, IsLineWithoutEnd, IsPiece, line_feeds, AreUnits}
use Rattle.facl_script.proofs.PieceLemmas.{are_units, feeds_append, feeds_line, feeds_lines, is_end_line, content, content_ended, content_more}

end_is_no : (line : List ℕ) → (line ≡ end_line → ⊥) → is_end line ≡ false
end_is_no line h = by_test (is_end line) refl
  where
    by_test : (t : Bool) → is_end line ≡ t → is_end line ≡ false
    by_test true e = absurd (h (is_end_line line e))
    by_test false e = e

unit_is : (u : ScriptUnit) (n : ℕ) (line : Option (List ℕ)) (text : UnitText) (full : Bool) → u.number ≡ n → u.line ≡ line → u.text ≡ text → u.is_full ≡ full
    → u ≡ record { number = n; line = line; text = text; is_full = full }
unit_is u n line text full a b c d = rw (sym a, sym b, sym c, sym d) refl

tail_same : (asks : List ℕ → Bool) (ended : Bool) (rest : List ℕ) (m k : ℕ) → (ended ≡ true → m ≡ k) → (ended ≡ false → rest ≡ [])
    → cut asks outside m (lines_of rest) ≡ cut asks outside k (lines_of rest)
tail_same asks true rest m k number last = ap (λ j. cut asks outside j (lines_of rest)) (number refl)
tail_same asks false rest m k number last = rw (last refl) refl

-- lines of a text, one after another
text_lines : (asks : List ℕ → Bool) (n : ℕ) (line : List ℕ) (lines done : List (List ℕ)) (k : ℕ) (rest : List ℕ) → AreTextLines lines
    → cut asks (within (so_far n line (content done))) k (lines_of (with_line_feeds lines ++ rest)) ≡ cut asks (within (so_far n line (content (done ++ lines)))) (k + length lines) (lines_of rest)
text_lines asks n line [] done k rest are = rw (append-nil done, add-zero k) refl
text_lines asks n line (l ∷ lines) done k rest are =
    ap (λ bytes. cut asks (within (so_far n line (content done))) k (lines_of bytes)) (append_assoc (spelled l true) (with_line_feeds lines) rest)
    ∙ text_line asks (so_far n line (content done)) k l (with_line_feeds lines ++ rest) are.0.0 (end_is_no l are.0.1)
    ∙ ap (λ c. cut asks (within (so_far n line c)) (k + 1) (lines_of (with_line_feeds lines ++ rest))) (content_more done l)
    ∙ text_lines asks n line lines (done ++ l ∷ []) (k + 1) rest are.1
    ∙ ap (λ ls. cut asks (within (so_far n line (content ls))) (k + 1 + length lines) (lines_of rest)) (append_assoc done (l ∷ []) lines)
    ∙ ap (λ m. cut asks (within (so_far n line (content (done ++ l ∷ lines)))) m (lines_of rest)) (omega arith)

text_opens : (asks : List ℕ → Bool) (n : ℕ) (line : List ℕ) (lines : List (List ℕ)) (rest : List ℕ) → HasNoLineFeed line → takes_text asks line ≡ true → AreTextLines lines
    → cut asks outside n (lines_of (spelled line true ++ (with_line_feeds lines ++ rest))) ≡ cut asks (within (so_far n line (content lines))) (n + 1 + length lines) (lines_of rest)
text_opens asks n line lines rest feed takes are = unit_opens asks n line (with_line_feeds lines ++ rest) feed takes ∙ text_lines asks n line lines [] (n + 1) rest are

line_cut : (asks : List ℕ → Bool) (u : ScriptUnit) (n : ℕ) (piece rest : List ℕ) → IsLine asks u piece → u.number ≡ n → 0 < length piece → (u.is_full ≡ false → rest ≡ [])
    → cut asks outside n (lines_of (piece ++ rest)) ≡ u ∷ cut asks outside (n + line_feeds piece) (lines_of rest)
line_cut asks u n piece rest is number some last =
    ap (λ p. cut asks outside n (lines_of (p ++ rest))) is.piece_is ∙ unit_alone asks n u.is_full is.line rest is.no_line_feed is.takes (λ f. (not_empty f, last f))
    ∙ ap (λ v. v ∷ cut asks outside (n + 1) (lines_of rest)) (sym (unit_is u n (within_limit is.line) none u.is_full number is.line_is is.text_is refl))
    ∙ ap (λ us. u ∷ us) (tail_same asks u.is_full rest (n + 1) (n + line_feeds piece) counted last)
  where
    not_empty : u.is_full ≡ false → 0 < length is.line
    not_empty f = subst (λ (l : List ℕ). 0 < length l) (is.piece_is ∙ ap (spelled is.line) f) some

    counted : u.is_full ≡ true → n + 1 ≡ n + line_feeds piece
    counted t = ap (λ m. n + m) (sym (ap line_feeds (is.piece_is ∙ ap (spelled is.line) t) ∙ feeds_line is.line is.no_line_feed))

text_cut : (asks : List ℕ → Bool) (u : ScriptUnit) (n : ℕ) (piece rest : List ℕ) → IsLineWithText asks u piece → u.number ≡ n → (u.is_full ≡ false → rest ≡ [])
    → cut asks outside n (lines_of (piece ++ rest)) ≡ u ∷ cut asks outside (n + line_feeds piece) (lines_of rest)
text_cut asks u n piece rest is number last =
    ap (λ p. cut asks outside n (lines_of (p ++ rest))) is.piece_is
    ∙ ap (λ l. cut asks outside n (lines_of l))
    (append_assoc (spelled is.line true) (with_line_feeds is.lines ++ spelled end_line u.is_full) rest
    ∙ ap (λ l. spelled is.line true ++ l) (append_assoc (with_line_feeds is.lines) (spelled end_line u.is_full) rest))
    ∙ text_opens asks n is.line is.lines (spelled end_line u.is_full ++ rest) is.no_line_feed is.takes is.lines_are
    ∙ text_end asks (so_far n is.line (content is.lines)) (n + 1 + length is.lines) u.is_full end_line rest (refl, tt) refl (λ f. (omega arith, last f))
    ∙ ap (λ v. v ∷ cut asks outside (n + 1 + length is.lines + 1) (lines_of rest))
    (sym (unit_is u n (Some is.line) (ended_text (content is.lines)) u.is_full number is.line_is (is.text_is ∙ sym (content_ended is.lines)) refl))
    ∙ ap (λ us. u ∷ us) (tail_same asks u.is_full rest (n + 1 + length is.lines + 1) (n + line_feeds piece) counted last)
  where
    counted : u.is_full ≡ true → n + 1 + length is.lines + 1 ≡ n + line_feeds piece
    counted t =
        omega (
          arith,
          ap line_feeds (is.piece_is ∙ ap (λ f. spelled is.line true ++ (with_line_feeds is.lines ++ spelled end_line f)) t),
          feeds_append (spelled is.line true) (with_line_feeds is.lines ++ spelled end_line true),
          feeds_append (with_line_feeds is.lines) (spelled end_line true),
          feeds_line is.line is.no_line_feed,
          feeds_lines is.lines is.lines_are,
          feeds_line end_line (refl, tt),
        )

-- the last line of a text that lacks its end, which may be empty
last_breaks : (asks : List ℕ → Bool) (o : Open) (k : ℕ) (last : List ℕ) → HasNoLineFeed last → (last ≡ end_line → ⊥) → cut asks (within o) k (lines_of last) ≡ closed o unended false ∷ []
last_breaks asks o k [] feed other = refl
last_breaks asks o k (b ∷ last) feed other = text_breaks asks o k (b ∷ last) feed (end_is_no (b ∷ last) other) (omega arith)

unended_cut : (asks : List ℕ → Bool) (u : ScriptUnit) (n : ℕ) (piece rest : List ℕ) → IsLineWithoutEnd asks u piece → u.number ≡ n → 0 < length piece → (u.is_full ≡ false → rest ≡ [])
    → cut asks outside n (lines_of (piece ++ rest)) ≡ u ∷ cut asks outside (n + line_feeds piece) (lines_of rest)
unended_cut asks u n piece rest is number some last =
    ap (λ l. cut asks outside n (lines_of (piece ++ l))) (last is.full_is) ∙ ap (λ l. cut asks outside n (lines_of l)) (append-nil piece) ∙ alone_cut is.piece_is
    ∙ ap (λ v. v ∷ []) (sym (unit_is u n (Some is.line) unended false number is.line_is is.text_is is.full_is))
    ∙ ap (λ l. u ∷ cut asks outside (n + line_feeds piece) (lines_of l)) (sym (last is.full_is))
  where
    alone_cut : (piece ≡ is.line) ⊎ ((bytes : List ℕ) × IsTextWithoutEnd bytes × (piece ≡ spelled is.line true ++ bytes))
        → cut asks outside n (lines_of piece) ≡ closed (opened n is.line) unended false ∷ []
    alone_cut (inl e) = ap (λ p. cut asks outside n (lines_of p)) (e ∙ sym (append-nil is.line))
        ∙ unit_breaks asks n is.line [] is.no_line_feed is.takes (subst (λ (l : List ℕ). 0 < length l) e some) refl
    alone_cut (inr h) =
        let t = h.1 in
        ap (λ p. cut asks outside n (lines_of p)) (h.2 ∙ ap (λ l. spelled is.line true ++ l) t.bytes_are) ∙ text_opens asks n is.line t.lines t.last is.no_line_feed is.takes t.lines_are.1
        ∙ last_breaks asks (so_far n is.line (content t.lines)) (n + 1 + length t.lines) t.last t.lines_are.0.0 t.lines_are.0.1

piece_cut : (asks : List ℕ → Bool) (u : ScriptUnit) (n : ℕ) (piece rest : List ℕ) → IsPiece asks u piece → u.number ≡ n → 0 < length piece → (u.is_full ≡ false → rest ≡ [])
    → cut asks outside n (lines_of (piece ++ rest)) ≡ u ∷ cut asks outside (n + line_feeds piece) (lines_of rest)
piece_cut asks u n piece rest is number some last = elim is [
  | inl line ↦ line_cut asks u n piece rest line number some last
  | inr more ↦ elim more [ inl text ↦ text_cut asks u n piece rest text number last | inr lacks ↦ unended_cut asks u n piece rest lacks number some last ]
]

units_cut : (asks : List ℕ → Bool) (us : List ScriptUnit) (n : ℕ) (bytes : List ℕ) → AreUnits asks n us bytes → us ≡ cut asks outside n (lines_of bytes)
units_cut asks [] n bytes h = sym (ap (λ l. cut asks outside n (lines_of l)) h)
units_cut asks (u ∷ us) n bytes h =
    let ih = units_cut asks us (n + line_feeds h.0) h.1 h.7 in
    ap (λ vs. u ∷ vs) ih ∙ sym (ap (λ l. cut asks outside n (lines_of l)) h.2 ∙ piece_cut asks u n h.0 h.1 h.6 h.5 h.3 h.4)

pub no_others : (asks : List ℕ → Bool) (us : List ScriptUnit) (script : List ℕ) → AreUnits asks 1 us script → us ≡ units_of asks script
no_others asks us script h = units_cut asks us 1 script h

-- The full units of the front of a script come first.

none_of_nothing : (asks : List ℕ → Bool) (us : List ScriptUnit) (n : ℕ) → AreUnits asks n us [] → us ≡ []
none_of_nothing asks [] n h = refl
none_of_nothing asks (u ∷ us) n h = absurd (omega (arith, h.3, ap length h.2, length-append h.0 h.1))

full_first : (asks : List ℕ → Bool) (us : List ScriptUnit) (n : ℕ) (front rest : List ℕ) → AreUnits asks n us front
    → (more : List ScriptUnit) × (cut asks outside n (lines_of (front ++ rest)) ≡ full_units us ++ more)
full_first asks [] n front rest h = (cut asks outside n (lines_of rest), ap (λ l. cut asks outside n (lines_of (l ++ rest))) h)
full_first asks (u ∷ us) n front rest h = by_test u.is_full refl (full_first asks us (n + line_feeds h.0) h.1 rest h.7)
  where
    by_test : (t : Bool) → u.is_full ≡ t → (more : List ScriptUnit) × (cut asks outside (n + line_feeds h.0) (lines_of (h.1 ++ rest)) ≡ full_units us ++ more)
        → (more : List ScriptUnit) × (cut asks outside n (lines_of (front ++ rest)) ≡ full_units (u ∷ us) ++ more)
    by_test true e ih = (
      ih.0,
      ap (λ l. cut asks outside n (lines_of (l ++ rest))) h.2 ∙ ap (λ l. cut asks outside n (lines_of l)) (append_assoc h.0 h.1 rest)
          ∙ piece_cut asks u n h.0 (h.1 ++ rest) h.6 h.5 h.3 (λ f. absurd (true≢false (sym e ∙ f))) ∙ ap (λ vs. u ∷ vs) ih.1
          ∙ ap (λ l. l ++ ih.0) (sym (ap (λ (b : Bool). cond b (u ∷ full_units us) (full_units us)) e)),
    )
    by_test false e ih =
        let last : us ≡ [] = none_of_nothing asks us (n + line_feeds h.0) (subst (λ (l : List ℕ). AreUnits asks (n + line_feeds h.0) us l) (h.4 e) h.7) in (
          cut asks outside n (lines_of (front ++ rest)),
          ap (λ l. l ++ cut asks outside n (lines_of (front ++ rest))) (sym (ap (λ (b : Bool). cond b (u ∷ full_units us) (full_units us)) e ∙ ap full_units last)),
        )

pub full_units_first : (asks : List ℕ → Bool) (front rest : List ℕ) → (more : List ScriptUnit) × (units_of asks (front ++ rest) ≡ full_units (units_of asks front) ++ more)
full_units_first asks front rest = full_first asks (units_of asks front) 1 front rest (are_units asks front)
