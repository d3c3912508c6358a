use Rattle.std.proofs.Common.{◌≡◌, ◌-◌, Less, get_or, ap, sym, ◌∙◌}
use Rattle.acl_entry.specs.declared.entry.Entry.{Entry}
use Rattle.acl_entry.specs.Keys.{key_cmp}
use Rattle.acl_entry.proofs.Rising.{rises_more, is_below}
use Rattle.acl_entry.proofs.draft.rises_at.Goals as goal

pub returns : goal.returns
returns c h =
    let es = c.args.entries.now in
    let before : Entry = c.index-entries-at.result in
    let e : Entry = c.index-entries-at-2.result in
    let less : key_cmp (get_or es (c.args.at - 1) before).key e.key ≡ Less =
    ap (λ (x : Entry). key_cmp (get_or es (c.args.at - 1) before).key x.key) c.index-entries-at-2.is ∙ sym c.order.ensures ∙ is_below c.order.result (sym c.eq.ensures ∙ h) in
    rises_more es c.args.at before e c.requires.in_range c.index-entries-at-2.is c.requires.in_order (λ lt. less)
