use Rattle.std.proofs.Common.{option_map, sym, ap, ◌∙◌, arith}
use Rattle.acl_entry.specs.declared.entry.ListFault.TheVariants.{MissingBase, MissingMask}
use Rattle.acl_entry.specs.Lists.{keys, or_else, unmasked}
use Rattle.acl_entry.proofs.Faults.{fault_once, once_in_order}
use Rattle.acl_entry.proofs.draft.fault_in_order.Goals as goal

pub returns-in-Some : goal.returns-in-Some
returns-in-Some c =
    let es = c.args.sorted.now in
    sym (fault_once es (omega arith) (once_in_order es c.requires) ∙ ap (λ b. or_else (option_map MissingBase b) (option_map MissingMask (unmasked (keys es)))) (sym c.in-Some.ensures))

pub returns-in-Some-unmasked : goal.returns-in-Some-unmasked
returns-in-Some-unmasked c =
    let es = c.args.sorted.now in
    sym (fault_once es (omega arith) (once_in_order es c.requires)
    ∙ ap (λ b. or_else (option_map MissingBase b) (option_map MissingMask (unmasked (keys es)))) (sym c.in_default.ensures) ∙ ap (option_map MissingMask) (sym c.in-Some-unmasked.ensures))

pub returns-in-None : goal.returns-in-None
returns-in-None c =
    let es = c.args.sorted.now in
    sym (fault_once es (omega arith) (once_in_order es c.requires)
    ∙ ap (λ b. or_else (option_map MissingBase b) (option_map MissingMask (unmasked (keys es)))) (sym c.in_default.ensures) ∙ ap (option_map MissingMask) (sym c.in-None.ensures))
