use Rattle.std.proofs.Common.{◌≡◌, ◌++◌, take, filter}
use Rattle.std.specs.List.{flat_map}
use Rattle.acl_text.specs.declared.fault.Which.TheVariants.{Access}
use Rattle.acl_text.specs.DumpWriting.{entry_line}
use Rattle.acl_text.specs.declared.effective.Effective.TheVariants.{WhereMasked}
use Rattle.facl_answers.specs.Inner.{is_chosen}
use Rattle.facl_answers.proofs.why.push_deciding.Given as goal

abbrev pub invariant-loop-entry : goal.invariant-loop-entry
invariant-loop-entry g l =
    l.text.items ≡ l.initial.text.items ++ flat_map (entry_line (g.N.Names.naming l.names) WhereMasked Access l.mask)
    (filter (is_chosen l.subject l.label.group l.sole) (take l.entry-index l.entry-items))
