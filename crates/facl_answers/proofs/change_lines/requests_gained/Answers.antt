use Rattle.std.proofs.Common.{◌++◌, ◌∷◌, [], ℕ, List, not, filter, lit<, sym, ap, ◌∙◌}
use Rattle.std.specs.Prelude.{◌&&◌}
use Rattle.std.proofs.lemmas.List.{take_all}
use Rattle.acl_entry.specs.Check.{has}
use Rattle.facl_answers.proofs.Spaced.{among, below_eight}
use Rattle.facl_answers.proofs.Gained.{one_gained, one_kept}
use Rattle.facl_answers.proofs.change_lines.requests_gained.Goals as goal
use Rattle.facl_answers.proofs.change_lines.requests_gained.Goals.{in-Some+then-is_gained+in_ok-push, in-Some+else-is_gained, in_default}

abbrev numbers : List ℕ
numbers = 1 ∷ 2 ∷ 3 ∷ 4 ∷ 5 ∷ 6 ∷ 7 ∷ []

pub loop-number-preserved : goal.loop-number-preserved
loop-number-preserved c =
    let i = c.loop-number.number-index in
    let before = c.args.before in
    let after = c.args.after in
    elim c.match-from_number.branch [
      | in-Some+then-is_gained+in_ok-push w ↦
          let is = w.in-Some.ensures.1 in
          ap (λ v. v.items) w.requests-is
          ∙ w.in_ok-push.ensures.items
          ∙ (λ j. c.loop-number.invariant j ++ is j ∷ [])
          ∙ sym (one_gained before after numbers i c.loop-number-test.true (ap (λ q. has after q && not (has before q)) (sym is) ∙ (sym w.is_gained.ensures ∙ w.if-is_gained.true)))
      | in-Some+else-is_gained w ↦
          let is = w.in-Some.ensures.1 in
          ap (λ v. v.items) w.requests-is
          ∙ c.loop-number.invariant
          ∙ sym (one_kept before after numbers i c.loop-number-test.true (ap (λ q. has after q && not (has before q)) (sym is) ∙ (sym w.is_gained.ensures ∙ w.if-is_gained.false)))
      | in_default w ↦ absurd (w.in_default.ensures (below_eight numbers (lit< tt, (lit< tt, (lit< tt, (lit< tt, (lit< tt, (lit< tt, (lit< tt, tt))))))) i c.loop-number-test.true))
    ]

pub returns : goal.returns
returns c = c.loop-number.invariant ∙ ap (λ l. filter (λ q. not (has c.args.before q)) (among c.args.after l)) (take_all c.loop-number.number-index numbers c.loop-number-test.false)
