use Rattle.std.proofs.Common.{◌∙◌}
use Rattle.facl_output.proofs.KeptRanges.{rest_found}
use Rattle.facl_output.proofs.kept_texts.KeptTexts.keep.Goals as goal

pub returns : goal.returns
returns c = λ text_of kept is.
    c.add.ensures text_of (c.in_ok-make_room.ensures text_of kept) (rest_found c.args.text.now c.args.start c.in-Some.kept c.in-Some.ensures.lookup ∙ is)
