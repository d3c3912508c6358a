use Rattle.std.proofs.Common.{sym, ◌∙◌, subst, List, ℕ, map, string_bytes, inr, refl}
use Rattle.std.proofs.lemmas.List.{map-append}
use Rattle.facl_script.proofs.WordLemmas.{char_seen, IsSeen, seen_between, seen_within, seen_quoted, nil_by_length}
use Rattle.facl_script.proofs.words.split_text.Goals as goal
use Rattle.facl_script.proofs.words.split_text.Goals.{in-Skips, in-Joins+in_ok-push-in-Joins, in-Ends+in_ok-push-in-Ends}

pub loop-c-preserved : goal.loop-c-preserved
loop-c-preserved c =
    let text = c.args.text.now in
    let turn = subst (λ (rest : List ℕ). IsSeen text (map string_bytes c.loop-c.words.items) (string_bytes c.loop-c.word) c.loop-c.place rest) c.in-Some.ensures.steps.0 c.loop-c.invariant in
    let seen = char_seen text _ _ c.loop-c.place c.in-Some.c c.next.new.self.rest.now turn in
    elim c.match-char_action.branch [
      | in-Skips w ↦ let h = rw (sym c.char_action.ensures ∙ w.in-Skips.is) at seen in rw (c.after-place.ensures, w.words-is, w.word-is) h
      | in-Joins+in_ok-push-in-Joins w ↦
          let h = rw (sym c.char_action.ensures ∙ w.in-Joins.is) at seen in
          rw (c.after-place.ensures, w.words-is, w.word-is, w.in_ok-push-in-Joins.ensures.bytes) h
      | in-Ends+in_ok-push-in-Ends w ↦
          let h = rw (sym c.char_action.ensures ∙ w.in-Ends.is) at seen in
          rw (c.after-place.ensures, w.words-is, w.word-is, w.new-word-in-Ends.ensures.bytes, w.in_ok-push-in-Ends.ensures.items, map-append string_bytes c.loop-c.words.items _) h
    ]

pub returns-in-Between : goal.returns-in-Between
returns-in-Between c =
    let none = nil_by_length _ c.in-None.ensures.steps.0.0 in
    let h = rw (none, c.in-Between.is) at c.loop-c.invariant in
    seen_between _ _ _ h

pub returns-in_ok-push-in-Within : goal.returns-in_ok-push-in-Within
returns-in_ok-push-in-Within c =
    let none = nil_by_length _ c.in-None.ensures.steps.0.0 in
    let h = rw (none, c.in-Within.is) at c.loop-c.invariant in
    rw (c.in_ok-push-in-Within.ensures.items, map-append string_bytes c.loop-c.words.items _) (seen_within _ _ _ h)

pub returns-in-Quoted : goal.returns-in-Quoted
returns-in-Quoted c =
    let none = nil_by_length _ c.in-None.ensures.steps.0.0 in
    let h = rw (none, c.in-Quoted.is) at c.loop-c.invariant in
    inr (refl, seen_quoted _ _ _ h)
