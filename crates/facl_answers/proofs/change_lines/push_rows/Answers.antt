use Rattle.std.proofs.Common.{◌≡◌, ◌++◌, ℕ, List, append-nil, sym, ap, ◌∙◌, arith, take}
use Rattle.acl_names.proofs.Appended.{still_begins}
use Rattle.std.proofs.lemmas.Grind.{common_steps}
use Rattle.facl_answers.specs.ChangesText.{change_lines}
use Rattle.facl_answers.specs.Inner.{verdict_or_none, lines_between}
use Rattle.facl_answers.specs.declared.placed_users.PlacedUser.{PlacedUser}
use Rattle.facl_output.proofs.Loops.{item_added, all_added}
use Rattle.facl_answers.proofs.Unchanged.{no_change}
use Rattle.facl_answers.proofs.change_lines.push_rows.Goals as goal
use Rattle.facl_answers.proofs.change_lines.push_rows.Goals.{then-bits+in_ok-push_user, else-bits}

abbrev lines_for : (path before after : List ℕ) → PlacedUser → List ℕ
lines_for path before after user = change_lines path user.name.items (verdict_or_none before user.before) (verdict_or_none after user.after)

pub returns-in_err-push_user : goal.returns-in_err-push_user
returns-in_err-push_user c =
    let shown = lines_between (take c.loop-user.user-index c.args.users.now) c.args.path.now c.args.before.now c.args.after.now in
    let begins = still_begins c.args.text.now.items shown c.loop-user.text.items c.push_user.new.text.items c.loop-user.invariant c.in_err-push_user.ensures in
    grind (arith, common_steps, begins)

pub loop-user-preserved : goal.loop-user-preserved
loop-user-preserved c =
    let path = c.args.path.now in
    let user = c.user-item.result in
    let text = c.loop-user.text.items in
    let had = verdict_or_none c.args.before.now user.before in
    let has = verdict_or_none c.args.after.now user.after in
    let wrote : c.if-bits.text.items ≡ text ++ change_lines path user.name.items had has =
    elim c.if-bits.branch [
      | then-bits+in_ok-push_user w ↦
          ap (λ t. t.items) w.text-is
          ∙ w.in_ok-push_user.ensures
          ∙ (λ i. text ++ change_lines path (w.deref.ensures.value i) (c.verdict_or_none-had.ensures i) (c.verdict_or_none-has.ensures i))
      | else-bits w ↦
          let same : had ≡ has = sym c.verdict_or_none-had.ensures ∙ sym c.bits.ensures ∙ w.if-bits.false ∙ c.bits-in-loop-user.ensures ∙ c.verdict_or_none-has.ensures in
          ap (λ t. t.items) w.text-is ∙ sym (append-nil text) ∙ ap (λ l. text ++ l) (sym (no_change path user.name.items had has same))
    ]
    in
    item_added (lines_for path c.args.before.now c.args.after.now) c.args.users.now c.args.text.now.items c.loop-user.user-index user user text c.if-bits.text.items c.loop-user-test.true
    c.user-item.is c.loop-user.invariant wrote

pub returns : goal.returns
returns c =
    all_added (lines_for c.args.path.now c.args.before.now c.args.after.now) c.args.users.now c.args.text.now.items c.loop-user.user-index c.loop-user.text.items c.loop-user-test.false
    c.loop-user.invariant
