use Rattle.std.proofs.Common.{take, map}
use Rattle.path_map.specs.Entries.{seen}
use Rattle.kinds.specs.Memo.{AreEdited}
use Rattle.kinds.proofs.edit.edit_entries.Given as goal

abbrev pub invariant-loop-entry : goal.invariant-loop-entry
invariant-loop-entry g l = AreEdited (g.E.KindEdit.edited l.edit) l.fn.kinds (map seen (take l.entry-index l.entries)) l.kinds l.memo.met.items (map seen l.puts.items)
