use Rattle.std.proofs.Common.{take, not, sym, ap, subst, ◌∙◌}
use Rattle.std.proofs.lemmas.List.{take_all}
use Rattle.std.specs.Prelude.{OnOk}
use Rattle.path_map.specs.Below.{within}
use Rattle.path_classes.specs.ClassesWithin.{inside}
use Rattle.acl_rights.specs.Verdicts.{rows_granted}
use Rattle.facl_answers.specs.BothStates.{rows_in_both}
use Rattle.facl_answers.proofs.ChangeLines.{rows_order}
use Rattle.facl_answers.proofs.PartRows.{files_order, none_inside, one_inside, within_root}
use Rattle.facl_counts.specs.InnerGains.{HaveChanges}
use Rattle.facl_counts.proofs.PartGains.{changes_more, inside_changes, no_changes, silent_outside}
use Rattle.facl_counts.proofs.gains.count_all.Goals as goal

pub returns-then-not-keep_places : goal.returns-then-not-keep_places
returns-then-not-keep_places g c =
    let asked = c.args.verdicts.now in
    let files = rows_in_both g.J.Judge.verdict_of asked.along c.args.loaded.now asked.state.now in
    subst (λ some. OnOk c.count_within_top-then-not-keep_places.result (HaveChanges some c.args.users.now c.count_within_top-then-not-keep_places.new.users))
    (within_root c.root.result files c.root.ensures) c.count_within_top-then-not-keep_places.ensures

pub loop-top-init : goal.loop-top-init
loop-top-init g c =
    let V = g.J.Judge.verdict_of in
    let asked = c.args.verdicts.now in
    let loaded = c.args.loaded.now in
    let now = asked.state.now in
    subst (λ files. HaveChanges files c.args.users.now c.args.users.now) (sym (none_inside c.args.tops.now (rows_in_both V asked.along loaded now)))
    (no_changes V asked.along loaded now c.args.users.now)

pub loop-top-preserved : goal.loop-top-preserved
loop-top-preserved g c =
    let V = g.J.Judge.verdict_of in
    let asked = c.args.verdicts.now in
    let loaded = c.args.loaded.now in
    let now = asked.state.now in
    let files = rows_in_both V asked.along loaded now in
    let order =
    files_order c.top-item.result (rows_granted V asked.along loaded) (rows_granted V asked.along now) (rows_order V asked.along loaded c.requires.before)
    (rows_order V asked.along now c.requires.after) in
    subst (λ some. HaveChanges some c.args.users.now c.count_within_top-in-loop-top.new.users)
    (one_inside c.args.tops.now c.loop-top.top-index c.top-item.result c.top-item.result c.loop-top-test.true c.top-item.is c.requires.tops files order)
    (changes_more V asked.along loaded now (inside (take c.loop-top.top-index c.args.tops.now) files)
    (within c.top-item.result files) c.args.users.now c.loop-top.users c.count_within_top-in-loop-top.new.users
    c.loop-top.invariant c.in_ok-count_within_top.ensures)

pub returns : goal.returns
returns g c =
    let V = g.J.Judge.verdict_of in
    let asked = c.args.verdicts.now in
    let loaded = c.args.loaded.now in
    let now = asked.state.now in
    let tops = c.args.tops.now in
    let users = c.args.users.now in
    let keep = sym c.keep_places.ensures ∙ c.if-not-keep_places.false in
    inside_changes V asked.along loaded now tops users c.loop-top.users
    (λ p apart. silent_outside V asked.along loaded now c.requires.before c.requires.after tops c.requires.same users keep p (ap not apart))
    (subst (λ some. HaveChanges (inside some (rows_in_both V asked.along loaded now)) users c.loop-top.users)
    (take_all c.loop-top.top-index tops c.loop-top-test.false) c.loop-top.invariant)
