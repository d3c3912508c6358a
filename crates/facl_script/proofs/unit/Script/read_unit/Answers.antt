use Rattle.std.proofs.Common.{◌≡◌, ◌+◌, ℕ, Bool, true, false, List, [], ◌∷◌, ◌++◌, length, length-append, refl, sym, ap, ◌∙◌, subst, append_assoc, arith, add_assoc, Some}
use Rattle.std.proofs.lemmas.Grind.{common_steps}
use Rattle.std.proofs.lemmas.Result.{err_from_is_err_and}
use Rattle.std.proofs.KnownBytes.{Consumes-trans}
use Rattle.std.specs.Io.KnownBytes.{Consumes}
use Rattle.facl_script.specs.Lines.{lines_of, Held, spelled}
use Rattle.facl_script.specs.ByteSource.{unread, taken_count}
use Rattle.facl_script.specs.ReadUnit.{IsLineFound}
use Rattle.facl_script.specs.Units.{within_limit, takes_text, opened, outside, unended, cut, closed, full_units}
use Rattle.facl_script.proofs.SourceLemmas.{stops_later}
use Rattle.facl_script.proofs.TextLemmas.{spelled_some, of_not, of_not_not}
use Rattle.facl_script.proofs.UnitLemmas.{alone, unit_alone, unit_breaks, unit_opens, no_unit_outside, takes_within, takes_some}
use Rattle.facl_script.proofs.unit.Script.read_unit.Goals as goal

pub returns-in_err-found : goal.returns-in_err-found
returns-in_err-found g c =
    let h = c.in_err-found.ensures.reads in
    let p = err_from_is_err_and c.from_residual.result c.from_residual.ensures.1 in
    rw (p.1, p.2) (h.0, no_unit_outside g.S.Session.asks h.0 h.1, h.2, h.3)

pub returns-then-not-asks_for_text : goal.returns-then-not-asks_for_text
returns-then-not-asks_for_text g c =
    let nl = rw c.in-Some.is at c.in_ok-found.ensures.reads.0 in
    let t : List ℕ = nl.0 in
    let line = nl.1 in
    let e = c.in-Some.found.is_ended in
    let n : ℕ = c.args.self.now.number in
    let held = subst (λ (l : List ℕ). Held c.in-Some.found.is_too_long l t) (sym c.as_slice-bytes.ensures.value) line.held in
    let is = c.of-line.ensures t held in
    let takes : takes_text g.S.Session.asks t ≡ false = sym (takes_within g.S.Session.asks t)
    ∙ sym (c.asks_for_text.ensures (within_limit t) (c.found.ensures (within_limit t) is)) ∙ c.if-not-asks_for_text.true in
    let some = spelled_some t e (λ h. (line.last h).0) in (
      (
        spelled t e,
        alone n t e,
        record {
          consumes = line.consumes;
          splits = λ rest last. unit_alone g.S.Session.asks n e t rest line.no_line_feed takes (λ h. ((line.last h).0, last h));
          last = λ h. (line.last h).1;
          numbered = refl;
          grows = omega arith;
          lines = omega (arith, some);
          count = line.count;
        },
        record { number = refl; line_is = subst (λ (l : List ℕ). IsLineFound c.of-line.result l (within_limit t)) c.as_slice-bytes.ensures.value is; text_is = refl; full = refl; lost = λ e. cc },
      ),
      c.in_ok-found.ensures.reads.1,
    )

pub returns-then-not-found : goal.returns-then-not-found
returns-then-not-found g c =
    let nl = rw c.in-Some.is at c.in_ok-found.ensures.reads.0 in
    let t : List ℕ = nl.0 in
    let line = nl.1 in
    let no_end : c.in-Some.found.is_ended ≡ false = of_not _ c.if-not-found.true in
    let n : ℕ = c.args.self.now.number in
    let held = subst (λ (l : List ℕ). Held c.in-Some.found.is_too_long l t) (sym c.as_slice-bytes.ensures.value) line.held in
    let is = c.of-line.ensures t held in
    let takes : takes_text g.S.Session.asks t ≡ true = sym (takes_within g.S.Session.asks t)
    ∙ sym (c.asks_for_text.ensures (within_limit t) (c.found.ensures (within_limit t) is)) ∙ c.if-not-asks_for_text.false in
    let some = (line.last no_end).0 in
    let consumes = subst
    (λ (b : Bool). Consumes (unread c.args.self.now.source (g.R.Feed.remaining c.args.reader.now))
    (unread c.next_line.new.self (g.R.Feed.remaining c.next_line.new.reader)) (spelled t b)) no_end line.consumes in
    let count = subst (λ (b : Bool). taken_count c.next_line.new.self ≡ taken_count c.args.self.now.source + length (spelled t b)) no_end line.count in (
      (
        t,
        closed (opened n t) unended false,
        record {
          consumes = consumes;
          splits = λ rest last. unit_breaks g.S.Session.asks n t rest line.no_line_feed takes some (last refl);
          last = λ h. (line.last no_end).1;
          numbered = refl;
          grows = omega arith;
          lines = omega (arith, some);
          count = count;
        },
        record {
          number = refl;
          line_is = subst (λ (l : List ℕ). IsLineFound c.of-line.result l (Some t)) c.as_slice-bytes.ensures.value
              (subst (λ o. IsLineFound c.of-line.result c.as_slice-bytes.result.now o) (takes_some g.S.Session.asks t takes) is);
          text_is = refl;
          full = refl;
          lost = λ e. cc;
        },
      ),
      c.in_ok-found.ensures.reads.1,
    )

pub returns-in_err-read : goal.returns-in_err-read
returns-in_err-read g c =
    let nl = rw c.in-Some.is at c.in_ok-found.ensures.reads.0 in
    let t : List ℕ = nl.0 in
    let line = nl.1 in
    let ended : c.in-Some.found.is_ended ≡ true = of_not_not _ c.if-not-found.false in
    let held = subst (λ (l : List ℕ). Held c.in-Some.found.is_too_long l t) (sym c.as_slice-bytes.ensures.value) line.held in
    let is = c.of-line.ensures t held in
    let takes : takes_text g.S.Session.asks t ≡ true = sym (takes_within g.S.Session.asks t)
    ∙ sym (c.asks_for_text.ensures (within_limit t) (c.found.ensures (within_limit t) is)) ∙ c.if-not-asks_for_text.false in
    let consumes = subst
    (λ (b : Bool). Consumes (unread c.args.self.now.source (g.R.Feed.remaining c.args.reader.now))
    (unread c.next_line.new.self (g.R.Feed.remaining c.next_line.new.reader)) (spelled t b)) ended line.consumes in
    let count = subst (λ (b : Bool). taken_count c.next_line.new.self ≡ taken_count c.args.self.now.source + length (spelled t b)) ended line.count in
    let h = c.in_err-read.ensures.reads in
    let p = err_from_is_err_and c.from_residual-in_err-read.result c.from_residual-in_err-read.ensures.1 in
    let stop = stops_later c.in_err-read.field-0.0 _ _ _ _ _ (t ++ 10 ∷ []) h.0 consumes h.2 in
    rw (p.1, p.2) (
      (t ++ 10 ∷ []) ++ h.0,
      λ n. ap full_units (unit_opens g.S.Session.asks n t h.0 line.no_line_feed takes) ∙ h.1 g.S.Session.asks n t (n + 1),
      stop,
      omega (arith, h.3, count, length-append (t ++ 10 ∷ []) h.0),
    )

pub invariant_of-self-2 : goal.invariant_of-self-2
invariant_of-self-2 g c =
    let nl = rw c.in-Some.is at c.in_ok-found.ensures.reads.0 in
    let t : List ℕ = nl.0 in
    let line = nl.1 in
    let some = spelled_some t c.in-Some.found.is_ended (λ h. (line.last h).0) in
    let text = c.in_ok-read.ensures.reads.0.2 in
    record { counted = omega (arith, some, line.count, text.count, text.lines, c.args.self.now.counted) }

pub returns : goal.returns
returns g c =
    let nl = rw c.in-Some.is at c.in_ok-found.ensures.reads.0 in
    let t : List ℕ = nl.0 in
    let line = nl.1 in
    let ended : c.in-Some.found.is_ended ≡ true = of_not_not _ c.if-not-found.false in
    let n : ℕ = c.args.self.now.number in
    let held = subst (λ (l : List ℕ). Held c.in-Some.found.is_too_long l t) (sym c.as_slice-bytes.ensures.value) line.held in
    let is = c.of-line.ensures t held in
    let takes : takes_text g.S.Session.asks t ≡ true = sym (takes_within g.S.Session.asks t)
    ∙ sym (c.asks_for_text.ensures (within_limit t) (c.found.ensures (within_limit t) is)) ∙ c.if-not-asks_for_text.false in
    let same = subst (λ (l : List ℕ). IsLineFound c.of-line.result l (Some t)) c.as_slice-bytes.ensures.value
    (subst (λ o. IsLineFound c.of-line.result c.as_slice-bytes.result.now o) (takes_some g.S.Session.asks t takes) is) in
    let consumes = subst
    (λ (b : Bool). Consumes (unread c.args.self.now.source (g.R.Feed.remaining c.args.reader.now))
    (unread c.next_line.new.self (g.R.Feed.remaining c.next_line.new.reader)) (spelled t b)) ended line.consumes in
    let count = subst (λ (b : Bool). taken_count c.next_line.new.self ≡ taken_count c.args.self.now.source + length (spelled t b)) ended line.count in
    let found = c.in_ok-read.ensures.reads.0 in
    let piece : List ℕ = found.0 in
    let text = found.2 in
    let front = t ++ 10 ∷ [] in (
      (
        front ++ piece,
        closed (opened n t) found.1 c.in_ok-read.read.is_full,
        record {
          consumes = Consumes-trans _ _ _ _ _ consumes text.consumes;
          splits = λ rest last. ap (λ l. cut g.S.Session.asks outside n (lines_of l)) (append_assoc front piece rest)
              ∙ unit_opens g.S.Session.asks n t (piece ++ rest) line.no_line_feed takes ∙ text.splits g.S.Session.asks n t (n + 1) rest last
              ∙ ap (λ k. closed (opened n t) found.1 c.in_ok-read.read.is_full ∷ cut g.S.Session.asks outside k (lines_of rest)) (add_assoc n 1 c.in_ok-read.read.lines);
          last = text.last;
          numbered = refl;
          grows = omega arith;
          lines = omega (arith, text.lines, length-append front piece, length-append t (10 ∷ []));
          count = omega (arith, count, text.count, length-append front piece);
        },
        record { number = refl; line_is = same; text_is = text.holds; full = refl; lost = λ e. (t, refl, takes) },
      ),
      c.in_ok-read.ensures.reads.1,
    )

pub invariant_of-self-then-not-asks_for_text : goal.invariant_of-self-then-not-asks_for_text
invariant_of-self-then-not-asks_for_text g c = grind (arith, common_steps)
