use Rattle.std.proofs.Common.{subst, sym, ◌∙◌, arith}
use Rattle.std.specs.Prelude.{option_map}
use Rattle.std.proofs.lemmas.Grind.{common_steps}
use Rattle.path_map.specs.Entries.{seen}
use Rattle.facl_output.proofs.Parts.{begins_later}
use Rattle.facl_answers.specs.BothStates.{TakesNextWithin, both_of}
use Rattle.facl_answers.specs.PathTexts.{text_in}
use Rattle.facl_answers.proofs.BothLines.{pushing_ends, pushing_more, pushing_starts}
use Rattle.facl_answers.proofs.changes.push_both.Goals as goal

pub returns-in_err-push_file : goal.returns-in_err-push_file
returns-in_err-push_file c =
    let begins = begins_later c.args.text.now.items c.loop-file.text.items c.push_file.new.text.items c.loop-file.invariant.begins c.in_err-push_file.ensures in
    grind (arith, common_steps, begins)

pub loop-file-init : goal.loop-file-init
loop-file-init c =
    pushing_starts c.args.users.now (text_in c.args.trees.0.now c.args.trees.1.now) c.args.top.now (both_of c.args.both.now) c.args.text.now.items c.requires.before c.requires.after

pub loop-file-preserved : goal.loop-file-preserved
loop-file-preserved c =
    let old = both_of c.loop-file.both in
    let new = both_of c.next_within.new.self in
    let taken = subst (λ o. TakesNextWithin c.args.top.now old (option_map seen o) new) c.in-Some.is c.in_ok-file.ensures in
    pushing_more c.args.users.now (text_in c.args.trees.0.now c.args.trees.1.now) c.args.top.now (both_of c.args.both.now) c.args.text.now.items old new c.in-Some.file.0.now c.in-Some.file.1
    c.loop-file.text.items c.push_file.new.text.items taken.0 taken.1 c.in_ok-push_file.ensures c.loop-file.invariant

pub returns : goal.returns
returns c =
    let old = both_of c.loop-file.both in
    let new = both_of c.next_within.new.self in
    let over = subst (λ o. TakesNextWithin c.args.top.now old (option_map seen o) new) c.in_default.is c.in_ok-file.ensures in
    pushing_ends c.args.users.now (text_in c.args.trees.0.now c.args.trees.1.now) c.args.top.now
    (both_of c.args.both.now) c.args.text.now.items old new c.loop-file.text.items over c.loop-file.invariant

pub push_file-requires : goal.push_file-requires
push_file-requires c kept = sym c.keep_places.ensures ∙ kept
