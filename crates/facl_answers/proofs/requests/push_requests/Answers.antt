use Rattle.std.proofs.Common.{◌+◌, ◌++◌, ◌∷◌, [], ℕ, List, append-nil, get_or, length, take, lit<, sym, ap, ◌∙◌, arith}
use Rattle.std.proofs.lemmas.Grind.{common_steps}
use Rattle.std.specs.Prelude.{codes}
use Rattle.std.proofs.lemmas.List.{take_all}
use Rattle.acl_entry.specs.Perms.{numbered}
use Rattle.acl_entry.specs.Check.{has}
use Rattle.acl_names.proofs.Appended.{still_begins}
use Rattle.facl_answers.specs.Requests.{requests_text}
use Rattle.facl_answers.proofs.Spaced.{spaced, is_empty, among, not_empty, one_granted, one_refused, below_eight, text_step, text_some, text_none}
use Rattle.facl_answers.proofs.requests.push_requests.Goals as goal
use Rattle.facl_answers.proofs.requests.push_requests.Goals.{in-Some+then-has+in_ok-push_request, in-Some+else-has, in_default}

abbrev numbers : List ℕ
numbers = 1 ∷ 2 ∷ 3 ∷ 4 ∷ 5 ∷ 6 ∷ 7 ∷ []

pub returns-in_err-push_request : goal.returns-in_err-push_request
returns-in_err-push_request c =
    let shown_text = spaced (among c.args.granted (take c.loop-number.number-index numbers)) in
    let begins = still_begins c.args.text.now.items shown_text c.loop-number.text.items c.push_request.new.text.items c.loop-number.invariant.text c.in_err-push_request.ensures in
    grind (arith, common_steps, begins)

pub returns-in_err-extend_from_slice : goal.returns-in_err-extend_from_slice
returns-in_err-extend_from_slice c =
    let shown_text = spaced (among c.args.granted (take c.loop-number.number-index numbers)) in
    let text = c.loop-number.text.items in
    let same = ap (take (length text)) c.in_err-extend_from_slice.ensures.items ∙ take_all (length text) text (omega arith) in
    let begins = still_begins c.args.text.now.items shown_text text c.extend_from_slice.new.self.items c.loop-number.invariant.text same in
    grind (arith, common_steps, begins)

pub loop-number-preserved : goal.loop-number-preserved
loop-number-preserved c =
    let i = c.loop-number.number-index in
    let granted = c.args.granted in
    let before = among granted (take i numbers) in
    elim c.match-from_number.branch [
      | in-Some+then-has+in_ok-push_request w ↦
          let is = w.in-Some.ensures.1 in
          let more = one_granted granted numbers i c.loop-number-test.true (ap (has granted) (sym is) ∙ (sym w.has.ensures ∙ w.if-has.true)) in
          record {
            text = text_step c.args.text.now.items c.loop-number.text.items c.match-from_number.text.items before (among granted (take (i + 1) numbers))
                (numbered (get_or numbers i 0)) w.in-Some.request c.loop-number.is_first
                (ap (λ t. t.items) w.text-is ∙ w.in_ok-push_request.ensures) c.loop-number.invariant.text c.loop-number.invariant.first is more;
            first = w.is_first-is ∙ sym (ap is_empty more ∙ not_empty before (numbered (get_or numbers i 0)));
          }
      | in-Some+else-has w ↦
          let is = w.in-Some.ensures.1 in
          let same = one_refused granted numbers i c.loop-number-test.true (ap (has granted) (sym is) ∙ (sym w.has.ensures ∙ w.if-has.false)) in
          record {
            text = ap (λ t. t.items) w.text-is ∙ (c.loop-number.invariant.text ∙ ap (λ qs. c.args.text.now.items ++ spaced qs) (sym same));
            first = w.is_first-is ∙ (c.loop-number.invariant.first ∙ ap is_empty (sym same));
          }
      | in_default w ↦ absurd (w.in_default.ensures (below_eight numbers (lit< tt, (lit< tt, (lit< tt, (lit< tt, (lit< tt, (lit< tt, (lit< tt, tt))))))) i c.loop-number-test.true))
    ]

pub returns-else-is_first : goal.returns-else-is_first
returns-else-is_first c =
    let i = c.loop-number.number-index in
    let granted = among c.args.granted (take i numbers) in
    c.loop-number.invariant.text
    ∙ ap (λ l. c.args.text.now.items ++ l)
    (text_some granted (sym c.loop-number.invariant.first ∙ c.if-is_first.false) ∙ ap (λ l. requests_text (among c.args.granted l)) (take_all i numbers c.loop-number-test.false))

pub returns-in_ok-extend_from_slice : goal.returns-in_ok-extend_from_slice
returns-in_ok-extend_from_slice c =
    let i = c.loop-number.number-index in
    let start = c.args.text.now.items in
    let none = text_none (among c.args.granted (take i numbers)) (sym c.loop-number.invariant.first ∙ c.if-is_first.true) in
    c.in_ok-extend_from_slice.ensures.items
    ∙ ap (λ l. l ++ codes "none") (c.loop-number.invariant.text ∙ ap (λ l. start ++ l) none.0 ∙ append-nil start)
    ∙ ap (λ l. start ++ l) (sym none.1 ∙ ap (λ l. requests_text (among c.args.granted l)) (take_all i numbers c.loop-number-test.false))
