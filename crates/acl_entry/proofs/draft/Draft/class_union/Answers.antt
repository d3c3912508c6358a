use Rattle.std.proofs.Common.{sym, ap, ◌∙◌, map, filter}
use Rattle.acl_entry.specs.Lists.{entries, union_all, perm_of_entry, in_class}
use Rattle.acl_entry.proofs.Maps.{entries-map_of}
use Rattle.acl_entry.proofs.draft.Draft.class_union.Goals as goal

pub returns : goal.returns
returns c =
    c.class_union.ensures
    ∙ ap (λ es. union_all (map perm_of_entry (filter in_class es))) (c.deref.ensures ∙ sym (entries-map_of c.self.inside.entries.items c.self.invariant.in_order) ∙ ap entries c.self.view_is)
