use Rattle.std.proofs.Common.{◌≡◌, sym, ap, subst, ◌∙◌}
use Rattle.acl_entry.specs.Lists.{entries, fault, HasIds}
use Rattle.acl_entry.proofs.Maps.{entries-map_of}
use Rattle.acl_entry.proofs.acl.Acl.entries.Goals as goal

pub returns : goal.returns
returns c =
    let made = entries-map_of c.self.inside.entries.items c.self.invariant.in_order in
    let is : entries c.args.self.now ≡ c.self.inside.entries.items = ap entries (sym c.self.view_is) ∙ made in
    record { all = c.deref.ensures ∙ sym is; valid = ap fault is ∙ c.self.invariant.no_fault; ids = subst HasIds (sym c.deref.ensures) c.self.invariant.ids }
