use Rattle.std.proofs.Common.{◌+◌, ◌||◌, sym, ◌∙◌, ap, subst, List, ℕ, refl, drop, take, get_or, [], ◌∷◌, ◌++◌, arith}
use Rattle.std.proofs.lemmas.Grind.{common_steps}
use Rattle.std.proofs.lemmas.List.{drop_more, drop_all}
use Rattle.facl_tools.specs.TextWords.{words_ask, word_asks}
use Rattle.facl_script.proofs.WordLemmas.{byte_seen, IsSeen, begins}
use Rattle.facl_tools.proofs.TextWordLemmas.{ask_more, none_done_more, take_grows, asks_by_beginning, words_ask_within}
use Rattle.facl_tools.proofs.text_words.words_ask.Goals as goal
use Rattle.facl_tools.proofs.text_words.words_ask.Goals.{in-Skips, in-Joins, in-Ends}

pub loop-b-init : goal.loop-b-init
loop-b-init c = record {
  done = [];
  word = [];
  seen = record { words = begins c.args.line.now; word = refl };
  beginning = c.new-beginning.ensures;
  first = refl;
  takes = refl;
}

pub loop-b-preserved : goal.loop-b-preserved
loop-b-preserved c =
    let inv = c.loop-b.invariant in
    let line = c.args.line.now in
    let i : ℕ = c.loop-b.b-index in
    let b : ℕ = get_or line i 0 in
    let more = drop_more line i 0 (omega arith) in
    let seen = byte_seen line inv.done inv.word c.loop-b.place b (drop (i + 1) line) (subst (λ (rest : List ℕ). IsSeen line inv.done inv.word c.loop-b.place rest) more inv.seen) in
    elim c.match-char_action.branch [
      | in-Skips w ↦
          let h = rw (sym c.char_action.ensures ∙ w.in-Skips.is) at seen in
          rw (c.after-place.ensures, w.beginning-is, w.is_first-is, w.takes-is) (record { done = inv.done; word = inv.word; seen = h; beginning = inv.beginning; first = inv.first; takes = inv.takes })
      | in-Joins w ↦
          let h = rw (sym c.char_action.ensures ∙ w.in-Joins.is) at seen in
          rw (c.after-place.ensures, w.beginning-is, w.is_first-is, w.takes-is)
          (record {
            done = inv.done;
            word = inv.word ++ b ∷ [];
            seen = h;
            beginning = w.push.ensures ∙ ap (λ l. take 16 (l ++ b ∷ [])) inv.beginning ∙ take_grows 16 inv.word b;
            first = inv.first;
            takes = inv.takes;
          })
      | in-Ends w ↦
          let h = rw (sym c.char_action.ensures ∙ w.in-Ends.is) at seen in
          let asks = w.asks-takes.ensures ∙ ap (word_asks c.loop-b.is_first) (w.as_slice.ensures ∙ inv.beginning)
          ∙ asks_by_beginning c.loop-b.is_first inv.word ∙ ap (λ f. word_asks f inv.word) inv.first in
          rw (c.after-place.ensures, w.beginning-is, w.is_first-is, w.takes-is)
          (record {
            done = inv.done ++ inv.word ∷ [];
            word = [];
            seen = h;
            beginning = w.new-beginning-in-Ends.ensures;
            first = sym (none_done_more inv.done inv.word);
            takes = ap (λ t. t || w.asks-takes.result) inv.takes ∙ ap (λ a. words_ask inv.done || a) asks ∙ sym (ask_more inv.done inv.word);
          })
    ]

pub returns-then-takes : goal.returns-then-takes
returns-then-takes c =
    let inv = c.loop-b.invariant in
    let line = c.args.line.now in
    let h = rw (drop_all c.loop-b.b-index line c.loop-b-test.false, c.in-Within.is) at inv.seen in
    rw (c.if-takes.true, words_ask_within line inv.done inv.word h, sym inv.takes, c.if-takes.true) refl

pub returns-else-takes : goal.returns-else-takes
returns-else-takes c =
    let inv = c.loop-b.invariant in
    let line = c.args.line.now in
    let h = rw (drop_all c.loop-b.b-index line c.loop-b-test.false, c.in-Within.is) at inv.seen in
    let asks = c.asks.ensures ∙ ap (word_asks c.loop-b.is_first) (c.as_slice-else-takes.ensures ∙ inv.beginning) ∙ asks_by_beginning c.loop-b.is_first inv.word
    ∙ ap (λ f. word_asks f inv.word) inv.first in
    rw (words_ask_within line inv.done inv.word h, sym inv.takes, c.if-takes.false) asks

pub returns-in-Between : goal.returns-in-Between
returns-in-Between c = grind (arith, common_steps)

pub returns-in-Quoted : goal.returns-in-Quoted
returns-in-Quoted c = grind (arith, common_steps)
