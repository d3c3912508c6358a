use Rattle.std.proofs.Common.{◌≡◌, ◌∷◌, [], ap, ◌∙◌}
use Rattle.acl_entry.specs.declared.entry.Key.TheVariants.{Owner, OwningGroup, Other}
use Rattle.acl_entry.specs.Lists.{map_of, mode, is_minimal, minimal_entries}
use Rattle.acl_entry.proofs.Modes.{mode-minimal, is_minimal-minimal}
use Rattle.acl_entry.proofs.acl.Acl.minimal.Goals as goal

pub returns-clause-base_alone : goal.returns-clause-base_alone
returns-clause-base_alone c =
    let is : c.in_ok-from_slice.field-0.items ≡ minimal_entries c.args.mode =
    c.in_ok-from_slice.ensures.ok
    ∙ (λ i. record { key = Owner; perm = c.last_digit.ensures i } ∷ record { key = OwningGroup; perm = c.last_digit-2.ensures i } ∷ record { key = Other; perm = c.last_digit-3.ensures i } ∷ []) in
    ap (λ es. is_minimal (map_of es)) is ∙ is_minimal-minimal c.args.mode

pub returns-clause-shown : goal.returns-clause-shown
returns-clause-shown c =
    let is : c.in_ok-from_slice.field-0.items ≡ minimal_entries c.args.mode =
    c.in_ok-from_slice.ensures.ok
    ∙ (λ i. record { key = Owner; perm = c.last_digit.ensures i } ∷ record { key = OwningGroup; perm = c.last_digit-2.ensures i } ∷ record { key = Other; perm = c.last_digit-3.ensures i } ∷ []) in
    ap (λ es. mode (map_of es)) is ∙ mode-minimal c.args.mode
