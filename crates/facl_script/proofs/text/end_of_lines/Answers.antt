use Rattle.std.proofs.Common.{true≢false, sym, ◌∙◌, Some}
use Rattle.facl_script.proofs.TextLemmas.{feed_before, feed_at_end, part_none, part_cut}
use Rattle.facl_script.proofs.text.end_of_lines.Goals as goal

pub returns-in-Some-clause-part : goal.returns-in-Some-clause-part
returns-in-Some-clause-part c =
    let piece = c.args.piece.now in
    let found = c.in-Some.ensures in
    part_cut piece c.in-Some.at (feed_before piece c.in-Some.at found.0 found.1)
    (λ occurs. true≢false (sym (c.is_prefix.ensures.1 occurs) ∙ c.if-is_prefix.false)) c.requires

pub returns-in-Some-memrchr-clause-part : goal.returns-in-Some-memrchr-clause-part
returns-in-Some-memrchr-clause-part c =
    let piece = c.args.piece.now in
    part_cut piece c.in-Some-memrchr.at (feed_at_end piece (Some c.in-Some-memrchr.at) c.in_default.ensures c.in-Some-memrchr.ensures)
    (λ occurs. true≢false (sym (c.is_prefix.ensures.1 occurs) ∙ c.if-is_prefix.false)) c.requires

pub returns-then-is_prefix-clause-part : goal.returns-then-is_prefix-clause-part
returns-then-is_prefix-clause-part c = part_none

pub returns-in-None-clause-part : goal.returns-in-None-clause-part
returns-in-None-clause-part c = part_none
