use Rattle.std.proofs.Common.{◌≡◌, Bool, true, false, refl, ◌∙◌}
use Rattle.std.specs.Prelude.{if◌then◌else◌}
use Rattle.acl_entry.specs.Perms.{Perms, none, union}
use Rattle.acl_text.specs.Letters.{holds}
use Rattle.acl_text.proofs.fields.letter_set.Goals as goal

abbrev only_read : Perms
only_read = record { read = true; write = false; execute = false }

abbrev only_write : Perms
only_write = record { read = false; write = true; execute = false }

abbrev only_execute : Perms
only_execute = record { read = false; write = false; execute = true }

union_of_three : (r w x : Bool) → union (union (if r then only_read else none) (if w then only_write else none)) (if x then only_execute else none)
    ≡ record { read = r; write = w; execute = x }
union_of_three true true true = refl
union_of_three true true false = refl
union_of_three true false true = refl
union_of_three true false false = refl
union_of_three false true true = refl
union_of_three false true false = refl
union_of_three false false true = refl
union_of_three false false false = refl

-- the union of what each letter gives
pub returns : goal.returns
returns c =
    let field = c.args.field.now in
    c.union-2.ensures ∙ (λ i. union (c.union.ensures i) (c.perm_by_letter-execute.ensures i))
    ∙ (λ i. union (union (c.perm_by_letter-read.ensures i) (c.perm_by_letter-write.ensures i)) (if holds 120 field then only_execute else none))
    ∙ union_of_three (holds 114 field) (holds 119 field) (holds 120 field)
