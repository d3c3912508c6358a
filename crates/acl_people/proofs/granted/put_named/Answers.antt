use Rattle.std.proofs.Common.{◌≡◌, ◌+◌, ◌-◌, ◌<◌, length, map, arith, ◌∙◌}
use Rattle.std.proofs.lemmas.Grind.{common_steps}
use Rattle.acl_people.proofs.ByEntries.{named_more, named_same, named_all}
use Rattle.acl_people.proofs.granted.put_named.Goals as goal

-- one entry more, which names a user
pub loop-i-preserved-in-User : goal.loop-i-preserved-in-User
loop-i-preserved-in-User c = λ f was.
    let users = c.args.users.now in
    let es = c.entries-entries.result.now in
    let i = c.loop-i.i - 1 in
    let in_range : c.loop-i.i - 1 < length es = omega arith in
    let above : c.loop-i.i ≡ c.loop-i.i - 1 + 1 = omega arith in
    let long : length c.put.new.row ≡ length users = omega arith in
    named_more users c.args.mask.now f es i c.loop-i.i c.index-entries-i.result in_range c.index-entries-i.is above c.in-User.id c.under.result c.of_id.result.now c.loop-i.row c.put.new.row
    c.in-User.is c.under.ensures c.of_id.ensures long (c.loop-i.invariant f was) c.put.ensures

-- one that does not
pub loop-i-preserved : goal.loop-i-preserved
loop-i-preserved c = λ f was.
    let users = c.args.users.now in
    let es = c.entries-entries.result.now in
    let in_range : c.loop-i.i - 1 < length es = omega arith in
    let above : c.loop-i.i ≡ c.loop-i.i - 1 + 1 = omega arith in
    named_same users c.args.mask.now f es (c.loop-i.i - 1) c.loop-i.i c.index-entries-i.result in_range c.index-entries-i.is above c.loop-i.row c.in_default.not-User (c.loop-i.invariant f was)

pub returns : goal.returns
returns c = λ f was.
    let label = c.args.label.now in
    let none : c.loop-i.i ≡ 0 = omega arith in
    c.loop-i.invariant f was
    ∙ (λ j. map (λ u. named_all label c.args.mask.now c.entries-entries.result.now c.loop-i.i c.requires.mask c.entries-entries.ensures.all none f u j) c.args.users.now)

pub loop-i-init : goal.loop-i-init
loop-i-init c = grind (arith, common_steps)
