use Rattle.std.proofs.Common.{map, subst, arith}
use Rattle.std.proofs.lemmas.Grind.{common_steps}
use Rattle.facl_output.proofs.Parts.{begins_later}
use Rattle.facl_answers.specs.Inner.{TakesStep, row_text, walked}
use Rattle.facl_answers.proofs.WalkedTexts.{adding_ends, adding_more, adding_starts}
use Rattle.facl_answers.proofs.index.push_files.Goals as goal

pub returns-in_err-push_file : goal.returns-in_err-push_file
returns-in_err-push_file c =
    let begins = begins_later c.args.text.now.items c.loop-file.text.items c.push_file.new.text.items c.loop-file.invariant.begins c.in_err-push_file.ensures in
    grind (arith, common_steps, begins)

pub loop-file-init : goal.loop-file-init
loop-file-init c = adding_starts (row_text (map (λ n. n.items) c.args.names.now)) (walked c.args.rest.now) c.args.text.now.items

pub loop-file-preserved : goal.loop-file-preserved
loop-file-preserved c =
    let old = walked c.loop-file.rest in
    let new = walked c.next.new.self in
    let step = subst (λ o. TakesStep old o new) c.in-Some.is c.in_ok-file.ensures in
    adding_more (row_text (map (λ n. n.items) c.args.names.now)) (walked c.args.rest.now) c.args.text.now.items old new c.in-Some.file c.loop-file.text.items c.push_file.new.text.items step
    c.in_ok-push_file.ensures c.loop-file.invariant

pub returns : goal.returns
returns c =
    let old = walked c.loop-file.rest in
    let new = walked c.next.new.self in
    let over = subst (λ o. TakesStep old o new) c.in_default.is c.in_ok-file.ensures in
    adding_ends (row_text (map (λ n. n.items) c.args.names.now)) (walked c.args.rest.now) c.args.text.now.items old c.loop-file.text.items over c.loop-file.invariant
