use Rattle.std.proofs.Common.{sym, ap, ◌∙◌}
use Rattle.acl_text.specs.Blanks.{trimmed}
use Rattle.acl_text.specs.Fields.{entry_fields, is_default_word}
use Rattle.acl_text.proofs.FieldCounts.{default_taken, fields-nonempty}
use Rattle.acl_text.proofs.fields.split_default.Goals as goal

pub returns-in-Some : goal.returns-in-Some
returns-in-Some c =
    rw c.in-Some.ensures.pieces
    (default_taken (trimmed c.in-Some.first.now) (entry_fields c.in-Some.rest.now) (fields-nonempty c.in-Some.rest.now)
    (ap is_default_word (sym c.trim.ensures) ∙ (sym c.is_one_of.ensures ∙ c.if-is_one_of.true)))
