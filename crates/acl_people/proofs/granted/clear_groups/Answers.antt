use Rattle.std.proofs.Common.{◌≡◌, length, arith, sym, ◌∙◌}
use Rattle.std.proofs.lemmas.Grind.{common_steps}
use Rattle.acl_people.proofs.ByEntries.{cleared_more, cleared_same}
use Rattle.acl_people.proofs.granted.clear_groups.Goals.{in-Some, in_default}
use Rattle.acl_people.proofs.granted.clear_groups.Goals as goal

-- one entry more: it is for a group, or it is not
pub loop-entry-preserved : goal.loop-entry-preserved
loop-entry-preserved c = λ f was.
    let users = c.args.users.now in
    let es = c.entries-entry-items.result.now in
    let i = c.loop-entry.entry-index in
    let e = c.entry-item.result in
    elim c.match-group_of.branch [
      | in-Some w ↦
          let long : length w.put.new.row ≡ length users = omega arith in
          w.row-is
          ∙ cleared_more users c.args.label.now.group es i e c.loop-entry-test.true c.entry-item.is f w.in-Some.group w.none.result w.of_group.result.now c.loop-entry.row w.put.new.row
          (sym c.group_of.ensures ∙ w.in-Some.is) w.none.ensures w.of_group.ensures long (c.loop-entry.invariant f was) w.put.ensures
      | in_default w ↦
          w.row-is
          ∙ cleared_same users c.args.label.now.group es i e c.loop-entry-test.true c.entry-item.is f c.loop-entry.row
          (sym c.group_of.ensures ∙ w.in_default.is) (c.loop-entry.invariant f was)
    ]

pub returns : goal.returns
returns c = grind (arith, common_steps)
