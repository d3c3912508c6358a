use Rattle.std.proofs.Common.{sym, ap, ◌∙◌}
use Rattle.acl_entry.specs.Lists.{entries, fault}
use Rattle.acl_entry.proofs.Maps.{entries-map_of}
use Rattle.acl_entry.proofs.draft.Draft.finish.Goals as goal

pub returns-in-Some-clause-reported : goal.returns-in-Some-clause-reported
returns-in-Some-clause-reported c =
    let is = ap entries (sym c.self.view_is) ∙ entries-map_of c.self.inside.entries.items c.self.invariant.in_order in
    ap fault (is ∙ sym c.deref.ensures) ∙ sym c.in-Some.ensures

pub returns-clause-valid : goal.returns-clause-valid
returns-clause-valid c =
    let is = ap entries (sym c.self.view_is) ∙ entries-map_of c.self.inside.entries.items c.self.invariant.in_order in
    ap fault (is ∙ sym c.deref.ensures) ∙ sym c.in_default.ensures
