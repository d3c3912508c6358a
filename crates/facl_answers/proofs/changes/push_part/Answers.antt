use Rattle.std.proofs.Common.{◌++◌, ℕ, List, take, append-nil, not, sym, ap, subst, ◌∙◌, arith}
use Rattle.std.proofs.lemmas.Grind.{common_steps}
use Rattle.std.proofs.lemmas.List.{take_all}
use Rattle.acl_names.specs.Appends.{Appends}
use Rattle.acl_names.proofs.Appended.{still_begins}
use Rattle.path_map.specs.Below.{within}
use Rattle.path_map.specs.Merged.{put_all}
use Rattle.path_classes.specs.ClassesWithin.{inside}
use Rattle.acl_rights.specs.Verdicts.{rows_granted}
use Rattle.facl_answers.specs.BothStates.{rows_in_both}
use Rattle.facl_answers.specs.Inner.{lines_of_file, lines_of_files}
use Rattle.facl_answers.specs.PathTexts.{text_in}
use Rattle.facl_answers.proofs.ChangeLines.{rows_order}
use Rattle.facl_answers.proofs.PartRows.{files_order, lines_more, no_lines_outside, none_inside, one_inside, parts_inside, within_root}
use Rattle.facl_answers.proofs.changes.push_part.Goals as goal

pub returns-then-not-keep_places : goal.returns-then-not-keep_places
returns-then-not-keep_places g c =
    let asked = c.args.verdicts.now in
    let loaded = c.args.loaded.now in
    let now = asked.state.now in
    let files = rows_in_both g.J.Judge.verdict_of asked.along loaded now in
    subst (λ (lines : List ℕ). Appends c.push_within.result c.args.text.now c.push_within.new.text lines)
    (ap (lines_of_files c.args.users.now (text_in loaded.tree now.tree)) (within_root c.root-root.result files c.root-root.ensures)) c.push_within.ensures

pub returns-in_err-push_within : goal.returns-in_err-push_within
returns-in_err-push_within g c =
    let asked = c.args.verdicts.now in
    let files = rows_in_both g.J.Judge.verdict_of asked.along c.args.loaded.now asked.state.now in
    let begins = still_begins c.args.text.now.items (lines_of_files c.args.users.now (text_in c.args.loaded.now.tree asked.state.now.tree) (inside (take c.loop-top.top-index c.args.tops.now) files))
    c.loop-top.text.items c.push_within-in-loop-top.new.text.items c.loop-top.invariant c.in_err-push_within.ensures in
    grind (arith, common_steps, begins)

pub loop-top-init : goal.loop-top-init
loop-top-init g c =
    let asked = c.args.verdicts.now in
    let files = rows_in_both g.J.Judge.verdict_of asked.along c.args.loaded.now asked.state.now in
    sym
    (ap (λ some. c.args.text.now.items ++ lines_of_files c.args.users.now (text_in c.args.loaded.now.tree asked.state.now.tree) some) (none_inside c.args.tops.now files)
    ∙ append-nil c.args.text.now.items)

pub loop-top-preserved : goal.loop-top-preserved
loop-top-preserved g c =
    let V = g.J.Judge.verdict_of in
    let asked = c.args.verdicts.now in
    let loaded = c.args.loaded.now in
    let now = asked.state.now in
    let files = rows_in_both V asked.along loaded now in
    let order =
    files_order c.top-item.result (rows_granted V asked.along loaded) (rows_granted V asked.along now) (rows_order V asked.along loaded c.requires.before)
    (rows_order V asked.along now c.requires.after) in
    lines_more c.args.users.now (text_in loaded.tree now.tree) c.args.text.now.items c.loop-top.text.items c.push_within-in-loop-top.new.text.items
    (inside (take c.loop-top.top-index c.args.tops.now) files) (within c.top-item.result files) c.loop-top.invariant c.in_ok-push_within.ensures
    ∙ ap (λ some. c.args.text.now.items ++ lines_of_files c.args.users.now (text_in loaded.tree now.tree) some)
    (one_inside c.args.tops.now c.loop-top.top-index c.top-item.result c.top-item.result c.loop-top-test.true c.top-item.is c.requires.tops files order)

pub returns : goal.returns
returns g c =
    let V = g.J.Judge.verdict_of in
    let asked = c.args.verdicts.now in
    let loaded = c.args.loaded.now in
    let now = asked.state.now in
    let users = c.args.users.now in
    let tops = c.args.tops.now in
    let text_of = text_in loaded.tree now.tree in
    let before = rows_granted V asked.along loaded in
    let after = rows_granted V asked.along now in
    let keep = sym c.keep_places.ensures ∙ c.if-not-keep_places.false in
    c.loop-top.invariant
    ∙ ap (λ some. c.args.text.now.items ++ lines_of_files users text_of (inside some (rows_in_both V asked.along loaded now))) (take_all c.loop-top.top-index tops c.loop-top-test.false)
    ∙ ap (λ all. c.args.text.now.items ++ all)
    (parts_inside (lines_of_file users text_of) before after tops
    (λ p apart. no_lines_outside V asked.along loaded now c.requires.before c.requires.after users text_of keep tops c.requires.same p (ap not apart)) (put_all after before))
