use Rattle.std.proofs.Common.{◌≡◌, ◌++◌, take}
use Rattle.acl_text.specs.Writing.{long}
use Rattle.acl_text.proofs.writing.push_long.Given as goal

abbrev pub invariant-loop-entry : goal.invariant-loop-entry
invariant-loop-entry g l = l.text.items ≡ l.initial.text.items ++ long (g.N.Names.naming l.names) (take l.entry-index l.entries)
