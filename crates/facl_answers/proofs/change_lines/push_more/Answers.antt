use Rattle.std.proofs.Common.{◌++◌, ◌∷◌, [], ap, ◌∙◌}
use Rattle.acl_entry.specs.Perms.{text}
use Rattle.facl_answers.specs.ChangesText.{after_comma}
use Rattle.facl_output.proofs.Loops.{item_added, all_added}
use Rattle.facl_output.proofs.Parts.{two_parts}
use Rattle.facl_answers.proofs.change_lines.push_more.Goals as goal

pub loop-request-preserved : goal.loop-request-preserved
loop-request-preserved c =
    let request = c.request-item.result in
    let comma = c.push.new.self.items in
    let new = c.extend_from_slice.new.self.items in
    let wrote =
    two_parts c.loop-request.text.items (44 ∷ []) (text request) comma new c.in_ok-push.ensures.items (c.in_ok-extend_from_slice.ensures.items ∙ ap (λ l. comma ++ l) c.text.ensures)
    in
    item_added after_comma c.args.requests.now c.args.text.now.items c.loop-request.request-index request request c.loop-request.text.items new c.loop-request-test.true c.request-item.is
    c.loop-request.invariant wrote

pub returns : goal.returns
returns c =
    all_added after_comma c.args.requests.now c.args.text.now.items c.loop-request.request-index c.loop-request.text.items c.loop-request-test.false c.loop-request.invariant
