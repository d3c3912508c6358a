use Rattle.std.proofs.Common.{◌≤◌, ◌∷◌, length, arith}
use Rattle.std.proofs.lemmas.Grind.{common_steps}
use Rattle.acl_names.specs.Pieces.{pieces}
use Rattle.acl_text.proofs.FieldCounts.{pieces-nonempty, eight_fields, few_fields}
use Rattle.acl_text.proofs.passwd.fields.Goals as goal

pub returns-in_err-_gecos : goal.returns-in_err-_gecos
returns-in_err-_gecos c =
    let few : length (pieces 58 c.in_ok-uid.rest.now) ≤ 2 = c.in_err-_gecos.ensures in
    rw (c.in_ok-name.ensures, c.in_ok-uid.ensures)
    (grind (arith, common_steps, few_fields (c.in_ok-name.name.now ∷ c.in_ok-name._password.now ∷ c.in_ok-uid.uid.now ∷ c.in_ok-uid.gid.now ∷ pieces 58 c.in_ok-uid.rest.now) (omega arith)))

pub returns-in-Some : goal.returns-in-Some
returns-in-Some c =
    rw (c.in_ok-name.ensures, c.in_ok-uid.ensures, c.in_ok-_gecos.ensures, c.in-Some.ensures.pieces)
    (eight_fields c.in_ok-name.name.now c.in_ok-name._password.now c.in_ok-uid.uid.now c.in_ok-uid.gid.now c.in_ok-_gecos._gecos.now c.in_ok-_gecos._home.now
    c.in-Some.field-0.0.now (pieces 58 c.in-Some.field-0.1.now) (pieces-nonempty 58 c.in-Some.field-0.1.now))
