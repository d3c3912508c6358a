use Rattle.std.proofs.Common.{sym, ap, ◌∙◌}
use Rattle.acl_entry.specs.Lists.{entries}
use Rattle.acl_entry.proofs.Maps.{entries-map_of}
use Rattle.acl_entry.proofs.draft.Draft.entries.Goals as goal

pub returns-clause-all : goal.returns-clause-all
returns-clause-all c = c.deref.ensures ∙ sym (entries-map_of c.self.inside.entries.items c.self.invariant.in_order) ∙ ap entries c.self.view_is
