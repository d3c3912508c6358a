use Rattle.std.proofs.Common.{◌++◌, ◌∷◌, [], sym, ap, ◌∙◌, append_assoc}
use Rattle.acl_names.specs.Pieces.{pieces}
use Rattle.acl_text.proofs.CutBodies.{joined, line_more}
use Rattle.acl_text.proofs.body.first_body.Goals as goal

pub loop-rest-preserved : goal.loop-rest-preserved
loop-rest-preserved c =
    let rest = c.loop-rest.rest.now in
    let line = c.in-Some.field-0-0.now in
    let after = c.in-Some.after.now in
    let front = c.loop-rest.invariant.front in
    let parts = c.in-Some.ensures.pieces in
    record {
      front = front ++ (line ++ 10 ∷ []);
      parts =
          c.loop-rest.invariant.parts
          ∙ (ap (λ t. front ++ t) (joined rest line after parts ∙ sym (append_assoc line (10 ∷ []) after))
          ∙ sym (append_assoc front (line ++ 10 ∷ []) after));
      body = line_more front rest line after c.loop-rest.lines c.loop-rest.invariant.body parts c.in-Some.ensures.clean (c.loop-rest-test.ensures.1 line (pieces 10 after) parts);
    }
