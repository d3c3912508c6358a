use Rattle.std.proofs.Common.{◌≡◌, ◌+◌, ℕ, Bool, true, false, List, [], ◌∷◌, ◌++◌, length, length-append, refl, sym, ap, ◌∙◌, subst, append_assoc, append-nil, arith, add_assoc}
use Rattle.std.proofs.lemmas.Result.{err_from_is_err_and}
use Rattle.std.proofs.KnownBytes.{Consumes-trans}
use Rattle.std.specs.Prelude.{option_map}
use Rattle.std.specs.Io.KnownBytes.{Consumes}
use Rattle.facl_script.specs.Lines.{lines_of, Held, spelled}
use Rattle.facl_script.specs.ByteSource.{unread, taken_count}
use Rattle.facl_script.specs.Units.{opened, within, outside, unended, cut, closed, is_end, more_text, ended_text, full_units}
use Rattle.facl_script.proofs.SourceLemmas.{stops_later, handed_pending}
use Rattle.facl_script.proofs.TextLemmas.{so_far, text_line, text_end, text_breaks, no_unit, spelled_some, of_not, of_not_not, holds_ended}
use Rattle.facl_script.proofs.text.read_text.Goals as goal

pub returns-in_err-found-clause-reads : goal.returns-in_err-found-clause-reads
returns-in_err-found-clause-reads g c =
    let inv = c.loop-found.invariant in
    let h = c.in_err-found.ensures.reads in
    let p = err_from_is_err_and c.from_residual.result c.from_residual.ensures.1 in
    let stop = stops_later c.in_err-found.field-0.0 _ _ _ _ _ inv.piece h.0 inv.consumes h.2 in
    rw (p.1, p.2) (
      inv.piece ++ h.0,
      λ asks number line n. ap full_units (inv.splits asks number line n h.0)
          ∙ no_unit asks h.0 h.1 (so_far number line inv.content) (n + c.loop-found.lines),
      stop,
      omega (arith, h.3, inv.count, length-append inv.piece h.0),
    )

pub returns-then-ends_here-clause-reads : goal.returns-then-ends_here-clause-reads
returns-then-ends_here-clause-reads g c =
    let inv = c.loop-found.invariant in
    let nl = rw c.in-Some.is at c.in_ok-found.ensures.reads.0 in
    let t : List ℕ = nl.0 in
    let line = nl.1 in
    let e = c.in-Some.found.is_ended in
    let held = subst (λ (l : List ℕ). Held c.in-Some.found.is_too_long l t) (sym c.deref.ensures.value) line.held in
    let ends : is_end t ≡ true = sym (c.ends_here.ensures t held) ∙ c.if-ends_here.true in
    let some = spelled_some t e (λ h. (line.last h).0) in (
      (
        inv.piece ++ spelled t e,
        ended_text inv.content,
        record {
          consumes = Consumes-trans _ _ _ _ _ inv.consumes line.consumes;
          splits = λ asks number l n rest last. ap (λ bs. cut asks (within (opened number l)) n (lines_of bs)) (append_assoc inv.piece (spelled t e) rest)
              ∙ inv.splits asks number l n (spelled t e ++ rest)
              ∙ text_end asks (so_far number l inv.content) (n + c.loop-found.lines) e t rest line.no_line_feed ends (λ h. ((line.last h).0, last h))
              ∙ ap (λ k. closed (opened number l) (ended_text inv.content) e ∷ cut asks outside k (lines_of rest)) (add_assoc n c.loop-found.lines 1);
          last = λ h. (line.last h).1;
          holds = holds_ended c.loop-found.held _ inv.content inv.holds;
          count = omega (arith, line.count, inv.count, length-append inv.piece (spelled t e));
          lines = omega (arith, inv.lines, some, length-append inv.piece (spelled t e));
        },
      ),
      c.in_ok-found.ensures.reads.1,
    )

pub returns-then-not-found-clause-reads : goal.returns-then-not-found-clause-reads
returns-then-not-found-clause-reads g c =
    let inv = c.loop-found.invariant in
    let nl = rw c.in-Some.is at c.in_ok-found.ensures.reads.0 in
    let t : List ℕ = nl.0 in
    let line = nl.1 in
    let e = c.in-Some.found.is_ended in
    let no_end : e ≡ false = of_not e c.if-not-found.true in
    let held = subst (λ (l : List ℕ). Held c.in-Some.found.is_too_long l t) (sym c.deref.ensures.value) line.held in
    let goes : is_end t ≡ false = sym (c.ends_here.ensures t held) ∙ c.if-ends_here.false in
    let some = (line.last no_end).0 in
    let count = subst (λ (b : Bool). taken_count c.next_line.new.self ≡ taken_count c.loop-found.source + length (spelled t b)) no_end line.count in (
      (
        inv.piece ++ t,
        unended,
        record {
          consumes = Consumes-trans _ _ _ _ _ inv.consumes
              (subst (λ (b : Bool). Consumes (unread c.loop-found.source (g.R.Feed.remaining c.loop-found.reader))
              (unread c.next_line.new.self (g.R.Feed.remaining c.next_line.new.reader)) (spelled t b)) no_end line.consumes);
          splits = λ asks number l n rest last. rw (last refl, append-nil (inv.piece ++ t))
              (inv.splits asks number l n t ∙ text_breaks asks (so_far number l inv.content) (n + c.loop-found.lines) t line.no_line_feed goes some);
          last = λ h. (line.last no_end).1;
          holds = refl;
          count = omega (arith, count, inv.count, length-append inv.piece t);
          lines = omega (arith, inv.lines, some, length-append inv.piece t);
        },
      ),
      c.in_ok-found.ensures.reads.1,
    )

pub loop-found-preserved : goal.loop-found-preserved
loop-found-preserved g c =
    let inv = c.loop-found.invariant in
    let nl = rw c.in-Some.is at c.in_ok-found.ensures.reads.0 in
    let t : List ℕ = nl.0 in
    let line = nl.1 in
    let e = c.in-Some.found.is_ended in
    let ended : e ≡ true = of_not_not e c.if-not-found.false in
    let held = subst (λ (l : List ℕ). Held c.in-Some.found.is_too_long l t) (sym c.deref.ensures.value) line.held in
    let held2 = subst (λ (l : List ℕ). Held c.in-Some.found.is_too_long l t) (sym c.deref-in-Some.ensures.value) line.held in
    let goes : is_end t ≡ false = sym (c.ends_here.ensures t held) ∙ c.if-ends_here.false in
    let more = t ++ 10 ∷ [] in
    let taken = c.take_lines-more.ensures in
    let part = taken.part in
    let front = inv.piece ++ more in
    let count = subst (λ (b : Bool). taken_count c.next_line.new.self ≡ taken_count c.loop-found.source + length (spelled t b)) ended line.count in
    let consumed = Consumes-trans _ _ _ _ _ inv.consumes
    (subst (λ (b : Bool). Consumes (unread c.loop-found.source (g.R.Feed.remaining c.loop-found.reader))
    (unread c.next_line.new.self (g.R.Feed.remaining c.next_line.new.reader)) (spelled t b)) ended line.consumes) in
    let k : ℕ = c.loop-found.lines in
    record {
      works = c.in_ok-found.ensures.reads.1;
      piece = front ++ part;
      content = option_map (λ l. l ++ part) (more_text inv.content t);
      consumes = handed_pending _ (g.R.Feed.remaining c.next_line.new.reader) _ part _ front consumed taken.taken;
      splits = λ asks number l n rest. ap (λ bs. cut asks (within (opened number l)) n (lines_of bs)) (append_assoc front part rest ∙ append_assoc inv.piece more (part ++ rest))
          ∙ inv.splits asks number l n (more ++ (part ++ rest))
          ∙ text_line asks (so_far number l inv.content) (n + k) t (part ++ rest) line.no_line_feed goes
          ∙ ap (λ m. cut asks (within (so_far number l (more_text inv.content t))) m (lines_of (part ++ rest))) (add_assoc n k 1)
          ∙ taken.are.splits asks number l (more_text inv.content t) (n + (k + 1)) rest
          ∙ ap (λ m. cut asks (within (so_far number l (option_map (λ l. l ++ part) (more_text inv.content t)))) m (lines_of rest)) (add_assoc n (k + 1) c.take_lines-more.result.0);
      holds = taken.holds (more_text inv.content t) (c.keep-held.ensures inv.content t inv.holds held2);
      count = omega (arith, taken.count, count, inv.count, length-append inv.piece more, length-append front part);
      lines = omega (arith, taken.are.few, inv.lines, length-append inv.piece more, length-append front part, length-append t (10 ∷ []));
    }
