use Rattle.std.proofs.Common.{arith}
use Rattle.facl_output.proofs.KeptRanges.{place_below}
use Rattle.facl_output.proofs.kept_texts.KeptTexts.place_of.Goals as goal

pub returns : goal.returns
returns c = place_below c.args.mark c.len.result c.args.self.now.places.items c.checked_rem.result c.checked_rem.ensures (omega arith)
