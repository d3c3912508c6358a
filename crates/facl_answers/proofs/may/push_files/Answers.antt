use Rattle.std.proofs.Common.{subst, arith}
use Rattle.std.proofs.lemmas.Grind.{common_steps}
use Rattle.std.proofs.lemmas.Option.{slice_get_within}
use Rattle.facl_output.proofs.Parts.{begins_later}
use Rattle.facl_answers.specs.Inner.{TakesStep, granted_text, walked}
use Rattle.facl_answers.proofs.GrantedClasses.{granted_later, line_added, none_granted}
use Rattle.facl_answers.proofs.WalkedTexts.{adding_ends, adding_starts}
use Rattle.facl_answers.proofs.may.push_files.Goals as goal

pub loop-table-init : goal.loop-table-init
loop-table-init c = record {
  adding = adding_starts (granted_text c.args.request c.args.user) (walked c.args.rest.now) c.args.text.now.items;
  known = none_granted c.args.request c.args.user c.args.rest.now.classes.0 c.new-table.result.items c.new-table.ensures.items;
}

pub is_granted-requires : goal.is_granted-requires
is_granted-requires c =
    let step = subst (λ o. TakesStep (walked c.loop-table.rest) o (walked c.next.new.self)) c.in-Some.is c.in_ok-file.ensures in
    record {
      there = slice_get_within c.next.new.self.classes.0 c.in-Some.file.class step.row step.has;
      known = granted_later c.args.request c.args.user c.loop-table.rest.classes.0 c.next.new.self.classes.0 c.loop-table.table.items step.keep c.loop-table.invariant.known;
    }

pub returns-in_err-push_granted : goal.returns-in_err-push_granted
returns-in_err-push_granted c =
    let begins = begins_later c.args.text.now.items c.loop-table.text.items c.push_granted.new.text.items c.loop-table.invariant.adding.begins c.in_err-push_granted.ensures in
    grind (arith, common_steps, begins)

pub loop-table-preserved : goal.loop-table-preserved
loop-table-preserved c =
    let old = walked c.loop-table.rest in
    let new = walked c.next.new.self in
    let step = subst (λ o. TakesStep old o new) c.in-Some.is c.in_ok-file.ensures in
    record {
      adding =
          line_added c.args.request c.args.user (walked c.args.rest.now) c.args.text.now.items old new c.in-Some.file c.loop-table.text.items c.push_granted.new.text.items c.in_ok-granted.granted
          step c.in_ok-granted.ensures.granted c.in_ok-push_granted.ensures c.loop-table.invariant.adding;
      known = c.in_ok-granted.ensures.known;
    }

pub returns : goal.returns
returns c =
    let old = walked c.loop-table.rest in
    let new = walked c.next.new.self in
    let over = subst (λ o. TakesStep old o new) c.in_default.is c.in_ok-file.ensures in
    adding_ends (granted_text c.args.request c.args.user) (walked c.args.rest.now) c.args.text.now.items old c.loop-table.text.items over c.loop-table.invariant.adding
