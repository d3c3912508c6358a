use Rattle.facl_output.proofs.KeptRanges.{none_kept}
use Rattle.facl_output.proofs.kept_texts.KeptTexts.new.Goals as goal

pub returns : goal.returns
returns c =
    λ text_of. none_kept text_of c.new.result.items _ _ c.new-places.result.items c.resize.new.self.items c.new-places.ensures.items c.in_ok-resize.ensures.items
