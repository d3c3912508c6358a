use Rattle.std.proofs.Common.{◌≡◌, ◌∙◌, subst}
use Rattle.facl_answers.specs.BothStates.{RowsOfFile, both_of, rows_of_key}
use Rattle.facl_counts.specs.InnerGains.{AreCountedFor, row_given}
use Rattle.facl_counts.proofs.UserChanges.{counted_none, same_row}
use Rattle.facl_counts.proofs.user_gains.count_tally.Goals as goal

pub returns-then-keeps_row : goal.returns-then-keeps_row
returns-then-keeps_row c =
    counted_none (rows_of_key (both_of c.args.both.now) c.args.tally.now.key) c.args.tally.now.count c.args.tally.now.first.now (c.keeps_row.ensures c.if-keeps_row.true) c.args.users.now
    (c.requires.kept c.if-is_kept.true)

pub returns-then-row_stays : goal.returns-then-row_stays
returns-then-row_stays c =
    let users = c.args.users.now in
    let tally = c.args.tally.now in
    let rows : RowsOfFile = (row_given c.given-had.result, row_given c.given-has.result) in
    let are : rows ≡ rows_of_key (both_of c.args.both.now) tally.key =
    λ i. ((c.given-had.ensures ∙ c.in_ok-before.ensures) i, (c.given-has.ensures ∙ c.in_ok-after.ensures) i)
    in
    subst (λ (some : RowsOfFile). AreCountedFor some tally.count tally.first.now users users) are
    (counted_none rows tally.count tally.first.now (same_row rows (c.row_stays.ensures c.if-row_stays.true)) users (c.requires.kept c.if-is_kept-2.true))
