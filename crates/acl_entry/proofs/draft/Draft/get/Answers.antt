use Rattle.std.proofs.Common.{sym, ap, ◌∙◌}
use Rattle.std.specs.FinMap as maps
use Rattle.acl_entry.specs.Keys.{key_cmp}
use Rattle.acl_entry.specs.Lists.{pairs}
use Rattle.acl_entry.proofs.Maps.{get-map_of}
use Rattle.acl_entry.proofs.draft.Draft.get.Goals as goal

pub returns : goal.returns
returns c =
    c.perm_of.ensures
    ∙ ap (λ es. maps.find key_cmp c.args.key (pairs es)) c.deref.ensures
    ∙ sym (get-map_of c.self.inside.entries.items c.args.key)
    ∙ ap (λ m. maps.get m c.args.key) c.self.view_is

pub perm_of-requires : goal.perm_of-requires
perm_of-requires c = rw c.deref.ensures c.self.invariant.in_order
