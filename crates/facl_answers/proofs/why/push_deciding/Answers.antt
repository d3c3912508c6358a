use Rattle.std.proofs.Common.{◌++◌, filter, sym, ap, ◌∙◌, arith, take}
use Rattle.acl_names.proofs.Appended.{still_begins}
use Rattle.std.proofs.lemmas.Grind.{common_steps}
use Rattle.std.specs.List.{flat_map}
use Rattle.acl_text.specs.DumpWriting.{entry_line}
use Rattle.acl_text.specs.declared.effective.Effective.TheVariants.{WhereMasked}
use Rattle.acl_text.specs.declared.fault.Which.TheVariants.{Access}
use Rattle.facl_answers.specs.Inner.{is_chosen}
use Rattle.facl_output.proofs.Loops.{passed_added, other_left, all_passed}
use Rattle.facl_answers.proofs.why.push_deciding.Goals as goal
use Rattle.facl_answers.proofs.why.push_deciding.Goals.{then-is_chosen+in_ok-push_line, else-is_chosen}

pub returns-in_err-push_line : goal.returns-in_err-push_line
returns-in_err-push_line g c =
    let line = entry_line (g.N.Names.naming c.args.names.now) WhereMasked Access c.get-mask.result in
    let chosen = is_chosen c.args.subject.now c.args.label.now.group c.sole_key-sole.result in
    let shown = flat_map line (filter chosen (take c.loop-entry.entry-index c.entries-entry-items.result.now)) in
    let begins = still_begins c.args.text.now.items shown c.loop-entry.text.items c.push_line.new.text.items c.loop-entry.invariant c.in_err-push_line.ensures in
    grind (arith, common_steps, begins)

pub loop-entry-preserved : goal.loop-entry-preserved
loop-entry-preserved g c =
    let line = entry_line (g.N.Names.naming c.args.names.now) WhereMasked Access c.get-mask.result in
    let chosen = is_chosen c.args.subject.now c.args.label.now.group c.sole_key-sole.result in
    let listed = c.entries-entry-items.result.now in
    let start = c.args.text.now.items in
    let i = c.loop-entry.entry-index in
    let entry = c.entry-item.result in
    elim c.if-is_chosen.branch [
      | then-is_chosen+in_ok-push_line w ↦
          passed_added line listed start chosen i entry entry c.loop-entry.text.items c.if-is_chosen.text.items c.loop-entry-test.true c.entry-item.is (sym c.is_chosen.ensures ∙ w.if-is_chosen.true)
          c.loop-entry.invariant (ap (λ t. t.items) w.text-is ∙ w.in_ok-push_line.ensures)
      | else-is_chosen w ↦
          other_left line listed start chosen i entry entry c.loop-entry.text.items c.if-is_chosen.text.items c.loop-entry-test.true c.entry-item.is (sym c.is_chosen.ensures ∙ w.if-is_chosen.false)
          c.loop-entry.invariant (ap (λ t. t.items) w.text-is)
    ]

pub returns : goal.returns
returns g c =
    let line_by = entry_line (g.N.Names.naming c.args.names.now) WhereMasked Access in
    let subject = c.args.subject.now in
    let label = c.args.label.now in
    let start = c.args.text.now.items in
    all_passed (line_by c.get-mask.result) c.entries-entry-items.result.now start (is_chosen subject label.group c.sole_key-sole.result) c.loop-entry.entry-index c.loop-entry.text.items
    c.loop-entry-test.false c.loop-entry.invariant
    ∙ (λ i. start ++ flat_map (line_by (c.get-mask.ensures i)) (filter (is_chosen subject label.group (c.sole_key-sole.ensures i)) (c.entries-entry-items.ensures.all i)))
