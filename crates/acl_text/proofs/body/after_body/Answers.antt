use Rattle.std.proofs.Common.{◌++◌, length, sym, ap, ◌∙◌}
use Rattle.std.proofs.lemmas.List.{take_rest}
use Rattle.acl_text.proofs.CutBodies.{cut_at}
use Rattle.acl_text.proofs.body.after_body.Goals as goal

pub returns-then-ends_record : goal.returns-then-ends_record
returns-then-ends_record c =
    let text = c.args.text.now in
    let body = c.args.body.now in (
      cut_at text body c.starts_with.result c.if-not-starts_with.false c.starts_with.ensures.value ∙ ap (λ t. body ++ t) (sym (take_rest text (length body))),
      c.if-ends_record.ensures,
    )
