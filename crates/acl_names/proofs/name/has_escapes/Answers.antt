use Rattle.std.proofs.Common.{sym, ◌∙◌}
use Rattle.acl_names.proofs.Escapes.{means_itself}
use Rattle.acl_names.proofs.name.has_escapes.Goals as goal

pub returns : goal.returns
returns c = λ isnt. means_itself c.args.text.now (sym c.contains.ensures.value ∙ isnt)
