use Rattle.std.proofs.Common.{sym, ◌∙◌}
use Rattle.std.proofs.lemmas.Bool.{not-true}
use Rattle.acl_names.proofs.Slashes.{none_of_three}
use Rattle.acl_names.proofs.packed_text.is_plain.Goals as goal

pub returns : goal.returns
returns c = λ plain. none_of_three c.args.bytes.now (sym c.contains.ensures.value ∙ c.if-contains.false)
    (sym c.contains-2.ensures.value ∙ c.if-contains-2.false) (sym c.contains-3.ensures.value ∙ not-true c.contains-3.result plain)
