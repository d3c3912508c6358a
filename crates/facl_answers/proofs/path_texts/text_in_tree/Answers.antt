use Rattle.std.proofs.Common.{Some, None, ap, ◌∙◌}
use Rattle.facl_answers.proofs.PathShown.{text_by}
use Rattle.facl_answers.proofs.path_texts.text_in_tree.Goals as goal

pub returns-in-Some : goal.returns-in-Some
returns-in-Some c =
    ap Some c.in_ok-path_shown-in-Some.ensures
    ∙ text_by c.args.tree.now.files c.args.path.now c.deref.result.now (Some c.in-Some.file.now) c.in-Some.ensures.value (c.deref.ensures.value ∙ c.in_ok-files.ensures)

pub returns : goal.returns
returns c = text_by c.args.tree.now.files c.args.path.now c.deref.result.now None c.in-None.ensures.value (c.deref.ensures.value ∙ c.in_ok-files.ensures)
