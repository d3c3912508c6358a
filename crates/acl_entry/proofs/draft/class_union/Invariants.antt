use Rattle.std.proofs.Common.{◌≡◌, drop, map, filter}
use Rattle.acl_entry.specs.Perms.{union}
use Rattle.acl_entry.specs.Lists.{union_all, in_class, perm_of_entry}
use Rattle.acl_entry.proofs.draft.class_union.Given as goal

abbrev pub invariant-loop-entry : goal.invariant-loop-entry
invariant-loop-entry l = union l.all (union_all (map perm_of_entry (filter in_class (drop l.entry-index l.entries)))) ≡ union_all (map perm_of_entry (filter in_class l.entries))
