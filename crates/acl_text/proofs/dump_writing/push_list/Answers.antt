use Rattle.std.proofs.Common.{◌++◌, take, ap, ◌∙◌, arith}
use Rattle.std.specs.List.{flat_map}
use Rattle.std.proofs.lemmas.Grind.{common_steps}
use Rattle.std.proofs.lemmas.List.{take_all}
use Rattle.acl_names.proofs.Appended.{still_begins}
use Rattle.acl_text.specs.DumpWriting.{entry_line}
use Rattle.acl_text.proofs.dump_writing.push_list.Goals as goal

pub returns-in_err-push_line : goal.returns-in_err-push_line
returns-in_err-push_line g c =
    let line = entry_line (g.N.Names.naming c.args.names.now) c.args.how c.args.which c.get-mask.result in
    let shown_text = flat_map line (take c.loop-entry.entry-index c.entries-entry-items.result.now) in
    let begins = still_begins c.args.text.now.items shown_text c.loop-entry.text.items c.push_line.new.text.items c.loop-entry.invariant c.in_err-push_line.ensures in
    grind (arith, common_steps, begins)

pub returns : goal.returns
returns g c =
    let start = c.args.text.now.items in
    let naming = g.N.Names.naming c.args.names.now in
    let line = entry_line naming c.args.how c.args.which c.get-mask.result in
    c.loop-entry.invariant
    ∙ ap (λ es. start ++ flat_map line es) (take_all c.loop-entry.entry-index c.entries-entry-items.result.now c.loop-entry-test.false)
    ∙ (λ i. start ++ flat_map (entry_line naming c.args.how c.args.which (c.get-mask.ensures i)) (c.entries-entry-items.ensures.all i))
