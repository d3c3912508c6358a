use Rattle.kinds.specs.Numbered.{entries_in}
use Rattle.acl_rights.specs.KindRows.{shared_rows, AreOfEntries}
use Rattle.acl_rights.proofs.many_rows.known_rows.Given as goal

abbrev pub invariant-loop-number : goal.invariant-loop-number
invariant-loop-number l = AreOfEntries (shared_rows l.known.rows.items) (entries_in l.fn.rows)
