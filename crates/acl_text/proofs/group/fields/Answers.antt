use Rattle.acl_names.specs.Pieces.{pieces}
use Rattle.acl_text.proofs.FieldCounts.{pieces-nonempty, five_fields}
use Rattle.acl_text.proofs.group.fields.Goals as goal

pub returns-in-Some : goal.returns-in-Some
returns-in-Some c =
    rw (c.in_ok-name.ensures, c.in_ok-gid.ensures.pieces, c.in-Some.ensures.pieces)
    (five_fields c.in_ok-name.name.now c.in_ok-name._password.now c.in_ok-gid.gid.now c.in-Some.field-0.0.now (pieces 58 c.in-Some.field-0.1.now) (pieces-nonempty 58 c.in-Some.field-0.1.now))
