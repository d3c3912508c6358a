use Rattle.std.proofs.Common.{◌≡◌, false, take}
use Rattle.std.specs.List.{list_any}
use Rattle.acl_entry.specs.Check.{is_for}
use Rattle.acl_rights.proofs.deciding.is_matched.Given as goal

abbrev pub invariant-loop-entry : goal.invariant-loop-entry
invariant-loop-entry l = list_any (is_for l.subject l.label.group) (take l.entry-index l.entry-items) ≡ false
