use Rattle.std.proofs.Common.{◌≡◌, ◌∙◌, Some, None, true, false, map, string_bytes, ap, subst, sym}
use Rattle.std.specs.Prelude.{ok_or}
use Rattle.std.specs.Option.{option_map_or}
use Rattle.acl_rights.specs.Deciders.{judging}
use Rattle.facl_tools.specs.Replies.{Replies, reply_of}
use Rattle.facl.specs.Tools.{loads, tool_named}
use Rattle.facl_output.specs.declared.fault.LineFault.TheVariants.{UnknownTool}
use Rattle.facl.specs.Sessions.{states_of, out_of, err_of, ran_out_of_memory, Answers}
use Rattle.facl.specs.Counted.{accepted, answer_of, refused}
use Rattle.facl.specs.Units.{loads_by_name, tool_reply}
use Rattle.acl_text.specs.Results.{◌>>=◌}
use Rattle.facl.proofs.Refusing.{refused_as}
use Rattle.facl.proofs.session.FaclSession.answer_named.Goals as goal

pub returns-in_default-clause-answer : goal.returns-in_default-clause-answer
returns-in_default-clause-answer g c = λ content held.
    let J = judging g.J.Judge.verdict_of g.J.Judge.decider_of in
    let states = states_of c.args.self.now in
    let number = c.args.unit.now.number in
    let name = c.args.name.now in
    let words = map string_bytes c.args.words.now in
    let new = c.refuse.new.self in
    let asked = g.J.Judge.asked_of c.args.judge.now in
    let none : tool_named name ≡ None = sym c.named.ensures ∙ c.in_default.is in
    subst (λ t. Answers number (answer_of number name states (ok_or t UnknownTool >>= tool_reply J states content words)) c.args.self.now new asked asked true) (sym none)
    (subst (λ word. Answers number (refused number word UnknownTool states) c.args.self.now new asked asked true) c.as_bytes.ensures.value (c.refuse.ensures.answer asked))

pub returns-in-Ok-clause-answer : goal.returns-in-Ok-clause-answer
returns-in-Ok-clause-answer g c = λ content held.
    let J = judging g.J.Judge.verdict_of g.J.Judge.decider_of in
    let states = states_of c.args.self.now in
    let number = c.args.unit.now.number in
    let name = c.args.name.now in
    let words = map string_bytes c.args.words.now in
    let old = c.args.self.now in
    let new = c.finish_line.new.self in
    let before = g.J.Judge.asked_of c.args.judge.now in
    let after = g.J.Judge.asked_of c.finish_line.new.judge in
    let result = c.finish_line.result in
    let some : tool_named name ≡ Some c.in-Some.tool = sym c.named.ensures ∙ c.in-Some.is in
    let is = subst (λ r. Replies states.now r (tool_reply J states content words c.in-Some.tool)) c.in-Ok.is (c.tool_reply.ensures.replies content held) in
    let named : c.loads.result ≡ loads_by_name name = c.loads.ensures ∙ ap (λ t. option_map_or loads t false) (sym some) in
    let as_named = subst (λ b. Answers number (accepted number b states (reply_of states.now c.in-Ok.effect)) old new before after result) named c.finish_line.ensures.answer in
    let replied = subst (λ r. Answers number (answer_of number name states r) old new before after result) (sym is.0) as_named in
    subst (λ t. Answers number (answer_of number name states (ok_or t UnknownTool >>= tool_reply J states content words)) old new before after result) (sym some) replied

pub returns-in-Err-clause-answer : goal.returns-in-Err-clause-answer
returns-in-Err-clause-answer g c = λ content held.
    let J = judging g.J.Judge.verdict_of g.J.Judge.decider_of in
    let states = states_of c.args.self.now in
    let number = c.args.unit.now.number in
    let name = c.args.name.now in
    let words = map string_bytes c.args.words.now in
    let new = c.refuse-in-Err.new.self in
    let asked = g.J.Judge.asked_of c.args.judge.now in
    let some : tool_named name ≡ Some c.in-Some.tool = sym c.named.ensures ∙ c.in-Some.is in
    let whole = ok_or (tool_named name) UnknownTool >>= tool_reply J states content words in
    let is = subst (λ r. Replies states.now r (tool_reply J states content words c.in-Some.tool)) c.in-Err.is (c.tool_reply.ensures.replies content held) in
    refused_as (ran_out_of_memory new) number name c.in-Err.fault states (states_of new) (answer_of number name states whole) asked (out_of new) (err_of new) c.refuse-in-Err.ensures.memory
    (λ other. ap (λ t. answer_of number name states (ok_or t UnknownTool >>= tool_reply J states content words)) some ∙ ap (answer_of number name states) (is other))
    (subst (λ word. Answers number (refused number word c.in-Err.fault states) c.args.self.now new asked asked true) c.as_bytes-in-Err.ensures.value (c.refuse-in-Err.ensures.answer asked))
