use Rattle.std.proofs.Common.{◌<◌, ◌≤◌, get_or, length, refl, arith}
use Rattle.facl_counts.specs.InnerGains.{row_given}
use Rattle.facl_counts.proofs.UserChanges.{counted_more, counted_all}
use Rattle.facl_counts.proofs.user_gains.count_for_each.Goals as goal

pub loop-user-preserved : goal.loop-user-preserved
loop-user-preserved c =
    let i = c.loop-user.user-index in
    let users = c.loop-user.users in
    let lt : i < length users = omega (arith, c.loop-user-test.true, c.loop-user.auto.users) in
    counted_more (row_given c.args.before.now, row_given c.args.after.now) c.args.count c.args.first.now c.args.users.now i users
    (get_or users i c.user-item.result) c.count.new.self c.user-item.result lt refl
    c.loop-user.invariant c.in_ok-count.ensures

pub returns : goal.returns
returns c =
    let past : length c.loop-user.users ≤ c.loop-user.user-index = omega (arith, c.loop-user-test.false, c.loop-user.auto.users) in
    counted_all (
      row_given c.args.before.now,
      row_given c.args.after.now,
    ) c.args.count c.args.first.now c.args.users.now c.loop-user.user-index c.loop-user.users past c.loop-user-test.false c.loop-user.invariant
