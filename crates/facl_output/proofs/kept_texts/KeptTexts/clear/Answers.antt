use Rattle.facl_output.proofs.KeptRanges.{none_kept}
use Rattle.facl_output.proofs.kept_texts.KeptTexts.clear.Goals as goal

pub returns : goal.returns
returns c =
    λ text_of. none_kept text_of c.clear.new.self.items _ _ c.clear-2.new.self.items c.resize.new.self.items c.clear-2.ensures.items c.in_ok-resize.ensures.items
