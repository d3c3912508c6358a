use Rattle.std.proofs.Common.{◌≡◌, length, map, arith, sym, ap, ◌∙◌}
use Rattle.std.specs.List.{list_any}
use Rattle.acl_entry.specs.Check.{is_for}
use Rattle.acl_people.specs.Cases.{is_matched}
use Rattle.acl_people.proofs.ByEntries.{added_more, added_same, added_all}
use Rattle.acl_people.proofs.granted.add_groups.Goals.{in-Some, in_default}
use Rattle.acl_people.proofs.granted.add_groups.Goals as goal

-- one entry more: it is for a group, or it is not
pub loop-entry-preserved : goal.loop-entry-preserved
loop-entry-preserved c = λ f was.
    let users = c.args.users.now in
    let owning = c.args.label.now.group in
    let mask = c.args.mask.now in
    let es = c.entries-entry-items.result.now in
    let i = c.loop-entry.entry-index in
    let e = c.entry-item.result in
    elim c.match-group_of.branch [
      | in-Some w ↦
          let long : length w.add.new.row ≡ length users = omega arith in
          w.row-is
          ∙ added_more users owning es i e c.loop-entry-test.true c.entry-item.is mask f (is_matched c.args.label.now)
          (λ u. ap (list_any (is_for u owning)) (sym c.entries-entry-items.ensures.all))
          w.in-Some.group w.under.result w.of_group.result.now c.loop-entry.row w.add.new.row
          (sym c.group_of.ensures ∙ w.in-Some.is) w.under.ensures w.of_group.ensures long (c.loop-entry.invariant f was) w.add.ensures
      | in_default w ↦
          w.row-is
          ∙ added_same users owning es i e c.loop-entry-test.true c.entry-item.is mask f (is_matched c.args.label.now)
          (λ u. ap (list_any (is_for u owning)) (sym c.entries-entry-items.ensures.all))
          c.loop-entry.row (sym c.group_of.ensures ∙ w.in_default.is) (c.loop-entry.invariant f was)
    ]

pub returns : goal.returns
returns c = λ f was.
    let label = c.args.label.now in
    let es = c.entries-entry-items.result.now in
    c.loop-entry.invariant f was
    ∙ (λ j. map (λ u. added_all label c.args.mask.now es c.loop-entry.entry-index c.requires.mask c.entries-entry-items.ensures.all c.loop-entry-test.false f u j) c.args.users.now)
