use Rattle.std.proofs.Common.{◌≡◌, None, Some, option_map, sym, ap, ◌∙◌, arith}
use Rattle.std.proofs.lemmas.Grind.{common_steps}
use Rattle.std.proofs.lemmas.List.Sorted.{IsPermutation-map}
use Rattle.acl_entry.specs.declared.entry.Key.TheVariants.{Mask}
use Rattle.acl_entry.specs.declared.entry.Entry.{Entry}
use Rattle.acl_entry.specs.declared.entry.ListFault.TheVariants.{MissingBase, MissingMask}
use Rattle.acl_entry.specs.Lists.{keys, is_among, or_else, missing_base, unmasked}
use Rattle.acl_entry.proofs.Maps.{map_of-from_finds}
use Rattle.acl_entry.proofs.Faults.{fault_once, fault-in_order, is_among-moved, missing_base-moved}
use Rattle.acl_entry.proofs.acl.Acl.from_entries.Goals as goal

pub returns-in-Some-clause-reported : goal.returns-in-Some-clause-reported
returns-in-Some-clause-reported c =
    let es = c.args.entries.now in
    let sorted = c.in_ok-sorted.ensures in
    let moved = IsPermutation-map (λ (e : Entry). e.key) es c.in_ok-sorted.sorted.items sorted.permutation in
    let base : missing_base (keys es) ≡ Some c.in-Some.key = missing_base-moved _ _ moved ∙ ap (λ l. missing_base (keys l)) (sym c.deref.ensures) ∙ sym c.in-Some.ensures in
    λ _. fault_once es (omega arith) sorted.once ∙ ap (λ b. or_else (option_map MissingBase b) (option_map MissingMask (unmasked (keys es)))) base

pub unmasked-requires-clause-mask : goal.unmasked-requires-clause-mask
unmasked-requires-clause-mask c =
    let moved = IsPermutation-map (λ (e : Entry). e.key) c.args.entries.now c.in_ok-sorted.sorted.items c.in_ok-sorted.ensures.permutation in
    c.has_entry.ensures ∙ ap (λ l. is_among Mask (keys l)) c.deref-2.ensures ∙ sym (is_among-moved _ _ moved Mask)

pub returns-in-Some-unmasked-clause-reported : goal.returns-in-Some-unmasked-clause-reported
returns-in-Some-unmasked-clause-reported c =
    let es = c.args.entries.now in
    let sorted = c.in_ok-sorted.ensures in
    let moved = IsPermutation-map (λ (e : Entry). e.key) es c.in_ok-sorted.sorted.items sorted.permutation in
    let base : missing_base (keys es) ≡ None = missing_base-moved _ _ moved ∙ ap (λ l. missing_base (keys l)) (sym c.deref.ensures) ∙ sym c.in_default.ensures in
    λ _. fault_once es (omega arith) sorted.once ∙ ap (λ b. or_else (option_map MissingBase b) (option_map MissingMask (unmasked (keys es)))) base
    ∙ ap (option_map MissingMask) (sym c.in-Some-unmasked.ensures)

pub invariant_of-result : goal.invariant_of-result
invariant_of-result c =
    let es = c.args.entries.now in
    let sorted = c.in_ok-sorted.ensures in
    let moved = IsPermutation-map (λ (e : Entry). e.key) es c.in_ok-sorted.sorted.items sorted.permutation in
    let base : missing_base (keys es) ≡ None = missing_base-moved _ _ moved ∙ ap (λ l. missing_base (keys l)) (sym c.deref.ensures) ∙ sym c.in_default.ensures in
    record {
      in_order = sorted.in_order;
      ids = sorted.ids;
      no_fault = fault-in_order es _ sorted.permutation sorted.in_order (omega arith) base (sym c.in_default-unmasked.ensures);
    }

pub returns-clause-ok : goal.returns-clause-ok
returns-clause-ok c = map_of-from_finds c.in_ok-sorted.sorted.items c.args.entries.now c.in_ok-sorted.ensures.same

pub returns-clause-no_fault : goal.returns-clause-no_fault
returns-clause-no_fault c =
    let es = c.args.entries.now in
    let sorted = c.in_ok-sorted.ensures in
    let moved = IsPermutation-map (λ (e : Entry). e.key) es c.in_ok-sorted.sorted.items sorted.permutation in
    let base : missing_base (keys es) ≡ None = missing_base-moved _ _ moved ∙ ap (λ l. missing_base (keys l)) (sym c.deref.ensures) ∙ sym c.in_default.ensures in
    fault_once es (omega arith) sorted.once ∙ ap (λ b. or_else (option_map MissingBase b) (option_map MissingMask (unmasked (keys es)))) base
    ∙ ap (option_map MissingMask) (sym c.in_default-unmasked.ensures)

pub returns-then-entries-gt-MAX_ENTRIES-clause-reported : goal.returns-then-entries-gt-MAX_ENTRIES-clause-reported
returns-then-entries-gt-MAX_ENTRIES-clause-reported c = grind (arith, common_steps)

pub returns-in_err-sorted-clause-reported : goal.returns-in_err-sorted-clause-reported
returns-in_err-sorted-clause-reported c = grind (arith, common_steps)
