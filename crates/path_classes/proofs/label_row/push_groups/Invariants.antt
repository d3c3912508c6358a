use Rattle.std.proofs.Common.{◌≡◌, ◌++◌, take}
use Rattle.path_classes.proofs.label_row.push_groups.Given as goal

abbrev pub invariant-loop-id : goal.invariant-loop-id
invariant-loop-id l = l.new.items ≡ l.fn.new.items ++ take l.id-index l.ids
