use Rattle.std.proofs.Common.{arith}
use Rattle.facl_output.proofs.KeptRanges.{all_stay, last_kept}
use Rattle.facl_output.proofs.kept_texts.KeptTexts.add.Goals as goal

pub returns : goal.returns
returns c = λ text_of kept is.
    let bytes = c.args.self.now.bytes.items in
    let new = c.extend_from_slice.new.self.items in
    c.put.ensures text_of (all_stay text_of bytes c.args.text.now new c.args.self.now.places.items c.in_ok-extend_from_slice.ensures.items kept)
    (last_kept text_of bytes c.args.text.now new c.args.node c.args.mark c.len-start.result c.len-end.result c.in_ok-extend_from_slice.ensures.items (omega arith) (omega arith) is)
