use Rattle.std.proofs.Common.{◌≡◌, ◌++◌, take}
use Rattle.std.specs.List.{flat_map}
use Rattle.acl_text.specs.DumpWriting.{entry_line}
use Rattle.acl_text.proofs.dump_writing.push_list.Given as goal

abbrev pub invariant-loop-entry : goal.invariant-loop-entry
invariant-loop-entry g l =
    l.text.items ≡ l.initial.text.items ++ flat_map (entry_line (g.N.Names.naming l.names) l.how l.which l.mask) (take l.entry-index l.entry-items)
