use Rattle.std.proofs.Common.{◌≡◌, ◌+◌, ◌<◌, length, List, ℕ, arith, rules, sym, ap, ◌∙◌}
use Rattle.acl_text.specs.declared.line.LineKind.{LineKind}
use Rattle.acl_text.specs.Lines.{begins_record}
use Rattle.acl_text.specs.SameBodies.{content_added, rest_if}
use Rattle.acl_text.proofs.CutBodies.{other_kind}
use Rattle.acl_text.proofs.KnownBodies.{line_read}
use Rattle.acl_text.proofs.known.add_record.Goals as goal

pub each-preserved : goal.each-preserved
each-preserved g c =
    let some : 0 < length c.each.rest.now = search rules in
    let content = c.content_of-kind.ensures in
    let naming = g.N.Names.naming c.args.names.now in
    let lines = c.each.lines in
    let after = c.first_piece.result.1.now in
    let draft = c.each.draft in
    let new = c.add_content.new.draft in
    let begins_none = sym (ap (λ (c : LineKind × List ℕ). begins_record c.0) content) ∙ other_kind c.content_of-kind.result.0 c.in_default.not-File in
    let adds = sym (ap (λ (c : LineKind × List ℕ). content_added naming draft lines c.0 c.1) content) ∙ c.in_ok-add_content-in_default.ensures in
    record {
      place = let shorter = c.first_piece.ensures.shorter some in let place = c.each.invariant.place in omega (arith, shorter, place);
      goes_on = λ dump_use records at.
          c.each.invariant.goes_on dump_use records at
          ∙ (line_read naming dump_use records draft new (at + lines) lines c.each.rest.now c.first_piece.result.0.now after c.first_piece.ensures.pieces begins_none adds
          ∙ ap (λ n. rest_if naming dump_use records new n after) (let n : (at + lines) + 1 ≡ at + (lines + 1) = omega arith in n));
    }
