use Rattle.std.proofs.Common.{rules, of_calls, arith, ◌≡◌, ◌∙◌, [], ◌∷◌, ◌-◌, false, length, map, string_bytes, take, drop, ap, subst, sym}
use Rattle.std.proofs.lemmas.List.{nil_from_length, take_all, length-drop}
use Rattle.acl_rights.specs.Deciders.{judging}
use Rattle.facl_tools.specs.Replies.{reply_of, printed}
use Rattle.facl.specs.Counted.{accepted, answer_of}
use Rattle.facl.specs.Units.{reply, tool_word}
use Rattle.facl.proofs.ToolTable.{nothing_loads}
use Rattle.facl.specs.Sessions.{states_of, Answers}
use Rattle.facl.proofs.session.FaclSession.answer_words.Goals as goal

pub returns-in-len1-up-clause-answer : goal.returns-in-len1-up-clause-answer
returns-in-len1-up-clause-answer g c = λ content held.
    let J = judging g.J.Judge.verdict_of g.J.Judge.decider_of in
    let states = states_of c.args.self.now in
    let number = c.args.unit.now.number in
    let new = c.answer_named.new.self in
    let words = c.args.words.now in
    let left = length-drop 1 words in
    let rest : take (length words - 1) (drop 1 words) ≡ drop 1 words = take_all (length words - 1) (drop 1 words) (omega (arith, left)) in
    let all : c.deref.result.now ∷ map string_bytes (drop 1 words) ≡ map string_bytes words = search (rules, of_calls) in
    let same = ap (λ ws. c.deref.result.now ∷ map string_bytes ws) rest ∙ all in
    let asked = g.J.Judge.asked_of in
    subst (λ ws. Answers number (answer_of number (tool_word ws) states (reply J states content ws)) c.args.self.now new
    (asked c.args.judge.now) (asked c.answer_named.new.judge) c.answer_named.result) same (c.answer_named.ensures.answer content held)

pub returns-in-empty-clause-answer : goal.returns-in-empty-clause-answer
returns-in-empty-clause-answer g c = λ content held.
    let J = judging g.J.Judge.verdict_of g.J.Judge.decider_of in
    let states = states_of c.args.self.now in
    let number = c.args.unit.now.number in
    let new = c.finish_line.new.self in
    let words = c.args.words.now in
    let none : words ≡ [] = nil_from_length words (omega (arith, c.in-empty.len_below)) in
    let asked = g.J.Judge.asked_of in
    let nothing : reply_of states.now c.prints-nothing.result ≡ printed states.now [] =
    c.prints-nothing.ensures.reply_of states.now ∙ ap (printed states.now) c.new.ensures.items in
    let accepted_so = subst (λ r. Answers number (accepted number false states r) c.args.self.now new
    (asked c.args.judge.now) (asked c.finish_line.new.judge) c.finish_line.result) nothing c.finish_line.ensures.answer in
    let as_named = subst (λ b. Answers number (accepted number b states (printed states.now [])) c.args.self.now new
    (asked c.args.judge.now) (asked c.finish_line.new.judge) c.finish_line.result) nothing_loads accepted_so in
    subst (λ ws. Answers number (answer_of number (tool_word (map string_bytes ws)) states (reply J states content (map string_bytes ws))) c.args.self.now new
    (asked c.args.judge.now) (asked c.finish_line.new.judge) c.finish_line.result) (sym none) as_named
