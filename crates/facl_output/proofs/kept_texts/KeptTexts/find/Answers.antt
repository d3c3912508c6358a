use Rattle.facl_output.proofs.KeptRanges.{text_found}
use Rattle.facl_output.proofs.kept_texts.KeptTexts.find.Goals as goal

pub returns : goal.returns
returns c = λ text_of kept.
    text_found text_of c.args.self.now.bytes.items _ c.in_ok-kept.kept c.args.node.now c.get.result c.deref.ensures.value (c.in_ok-kept.ensures text_of kept)
    (c.is_same_node.ensures c.if-not-is_same_node.false) c.get.ensures.lookup
