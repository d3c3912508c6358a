use Rattle.facl_output.proofs.KeptRanges.{at_place}
use Rattle.facl_output.proofs.kept_texts.KeptTexts.at.Goals as goal

pub returns-in-Some : goal.returns-in-Some
returns-in-Some c = λ text_of kept.
    at_place text_of c.args.self.now.bytes.items c.args.self.now.places.items _ _ c.in-Some.kept c.deref.ensures.value kept c.in-Some.ensures.lookup
