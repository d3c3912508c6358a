use Rattle.std.proofs.Common.{◌≡◌, ◌++◌, length, drop, ap, ◌∙◌, arith}
use Rattle.std.proofs.Math.Seq.{drop-append_seam}
use Rattle.facl_output.proofs.kept_texts.KeptTexts.push.Goals as goal

pub returns-in-Some : goal.returns-in-Some
returns-in-Some g c =
    let text_of = g.W.NodeText.text_of c.args.writer.now in
    let sought = c.seeks_next.ensures text_of c.requires in
    record {
      text = c.in_ok-extend_from_slice.ensures.items ∙ ap (λ l. c.args.text.now.items ++ l) (c.in-Some.ensures text_of sought);
      kept = c.note_found.ensures text_of sought;
    }

pub returns : goal.returns
returns g c =
    let text_of = g.W.NodeText.text_of c.args.writer.now in
    let old = c.args.text.now.items in
    let start : c.len-start.result ≡ length old = omega arith in
    record {
      text = c.in_ok-push-2.ensures;
      kept = c.in_ok-keep.ensures text_of (c.seeks_next.ensures text_of c.requires)
          (ap (drop c.len-start.result) c.as_slice.ensures.value ∙ ((λ i. drop (start i) (c.in_ok-push-2.ensures i)) ∙ drop-append_seam old (text_of c.args.node.now)));
    }
