use Rattle.acl_text.specs.Blanks.{trimmed}
use Rattle.acl_text.specs.Fields.{entry_fields}
use Rattle.acl_text.proofs.FieldCounts.{four_fields, fields-nonempty}
use Rattle.acl_text.proofs.fields.row_of.Goals as goal

pub returns : goal.returns
returns c =
    rw (c.in-Some.ensures.pieces, c.in-Some-cut.ensures.pieces, c.in-Some-cut-2.ensures.pieces)
    (four_fields (trimmed c.in-Some.first.now) (trimmed c.in-Some-cut.second.now) (trimmed c.in-Some-cut-2.field-0.0.now)
    (entry_fields c.in-Some-cut-2.field-0.1.now) (fields-nonempty c.in-Some-cut-2.field-0.1.now))
