use Rattle.std.proofs.Common.{◌≡◌, ◌+◌, ℕ, None, Some, [], ◌∷◌, ◌++◌, take, drop, length, sym, ap, ◌∙◌, append_assoc, append-nil, length-append, length-take, take-append-drop, true≢false, arith}
use Rattle.std.proofs.lemmas.Grind.{common_steps}
use Rattle.std.proofs.lemmas.List.{take_all}
use Rattle.std.proofs.lemmas.Result.{err_from_is_err_and}
use Rattle.facl_script.specs.ByteSource.{pending}
use Rattle.facl_script.proofs.LineLemmas.{HasNoLineFeed-append, first_line_feed}
use Rattle.facl_script.proofs.SourceLemmas.{handed, stops_later}
use Rattle.facl_script.proofs.source.ByteSource.next_line.Goals as goal

pub returns-in-Some-clause-reads : goal.returns-in-Some-clause-reads
returns-in-Some-clause-reads g c =
    let inv = c.loop-self.invariant in
    let piece = c.pending-piece.result.now in
    let n : ℕ = c.in-Some.at in
    let found = first_line_feed piece (Some n) c.in-Some.ensures in
    let front = take n piece in
    let cut : pending c.fill.new.self ≡ (front ++ 10 ∷ []) ++ pending c.skip.new.self =
    sym c.pending-piece.ensures.all ∙ found.2 ∙ sym (append_assoc front (10 ∷ []) (drop (n + 1) piece))
    ∙ ap (λ l. (front ++ 10 ∷ []) ++ l) (ap (drop (n + 1)) c.pending-piece.ensures.all ∙ sym c.skip.ensures.pending) in (
      (
        inv.text ++ front,
        record {
          no_line_feed = HasNoLineFeed-append _ _ inv.no_line_feed found.1;
          consumes = rw (append_assoc inv.text front (10 ∷ [])) (handed _ _ (g.R.Feed.remaining c.fill.new.reader) _ _ _ _ inv.consumes c.in_ok-fill.ensures.fills.0 cut);
          last = λ e. absurd (true≢false e);
          held = c.in_ok-is_too_long-in-Some.ensures inv.text inv.held;
          count = omega (arith, c.skip.ensures.count, c.in_ok-fill.ensures.count, inv.count, found.0, length-append (inv.text ++ front) (10 ∷ []), length-append inv.text front, length-take n piece);
        },
      ),
      c.in_ok-fill.ensures.fills.1,
    )

pub loop-self-preserved : goal.loop-self-preserved
loop-self-preserved g c =
    let inv = c.loop-self.invariant in
    let piece = c.pending-piece.result.now in
    let n : ℕ = length piece in
    let all : take n piece ≡ piece = take_all n piece (omega arith) in
    let cut : pending c.fill.new.self ≡ piece ++ pending c.skip-in-None.new.self =
    sym c.pending-piece.ensures.all ∙ sym (take-append-drop n piece) ∙ ap (λ l. l ++ drop n piece) all
    ∙ ap (λ l. piece ++ l) (ap (drop n) c.pending-piece.ensures.all ∙ sym c.skip-in-None.ensures.pending) in
    record {
      works = c.in_ok-fill.ensures.fills.1;
      text = inv.text ++ piece;
      no_line_feed = HasNoLineFeed-append _ _ inv.no_line_feed (first_line_feed piece None c.in-None.ensures);
      consumes = handed _ _ (g.R.Feed.remaining c.fill.new.reader) _ _ _ _ inv.consumes c.in_ok-fill.ensures.fills.0 cut;
      held = c.in_ok-is_too_long-in-None.ensures inv.text inv.held;
      count = omega (arith, c.skip-in-None.ensures.count, c.in_ok-fill.ensures.count, inv.count, length-append inv.text piece);
      empty = omega (arith, length-append inv.text piece);
    }

pub returns-in_err-fill-clause-reads : goal.returns-in_err-fill-clause-reads
returns-in_err-fill-clause-reads g c =
    let inv = c.loop-self.invariant in
    let h = c.in_err-fill.ensures in
    let p = err_from_is_err_and c.from_residual.result c.from_residual.ensures.1 in
    let stop = rw append-nil at (stops_later c.in_err-fill.field-0.0 _ _ _ _ _ inv.text [] inv.consumes h.fills) in
    rw (p.1, p.2) (inv.text, inv.no_line_feed, stop, omega (arith, inv.count, h.count))

pub returns-then-is_empty-clause-reads : goal.returns-then-is_empty-clause-reads
returns-then-is_empty-clause-reads g c = grind (arith, common_steps)

pub returns-then-n-eq0-clause-reads : goal.returns-then-n-eq0-clause-reads
returns-then-n-eq0-clause-reads g c = grind (arith, common_steps)
