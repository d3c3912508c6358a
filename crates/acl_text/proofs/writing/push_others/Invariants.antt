use Rattle.std.proofs.Common.{◌≡◌, ◌++◌, take}
use Rattle.std.specs.List.{flat_map}
use Rattle.acl_text.specs.Writing.{after_comma}
use Rattle.acl_text.proofs.writing.push_others.Given as goal

abbrev pub invariant-loop-other : goal.invariant-loop-other
invariant-loop-other g l = l.text.items ≡ l.initial.text.items ++ flat_map (after_comma (g.N.Names.naming l.names)) (take l.other-index l.others)
