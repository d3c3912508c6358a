use Rattle.std.proofs.Common.{◌≤◌, length, map, refl, ap, subst, ◌∙◌, arith}
use Rattle.std.specs.Borrow.{Bor}
use Rattle.path_map.specs.Entries.{IsInOrder, seen}
use Rattle.path_map.specs.Merged.{merged}
use Rattle.acl_entry.specs.declared.label.Label.{Label}
use Rattle.kinds.specs.Numbered.{Kept, entries_in}
use Rattle.path_classes.specs.declared.label_row.LabelRow.{LabelRow}
use Rattle.acl_people.specs.KnownPeople.{persons}
use Rattle.acl_tree.specs.Files.{Recorded}
use Rattle.acl_rights.specs.KindRows.{with_label, rowed_labels}
use Rattle.acl_rights.specs.Lines.{labels_of}
use Rattle.acl_rights.proofs.NextRows.{rows_known, seen_paths, files_cost, changed_order, gone_order, rows_after, changed_most}
use Rattle.acl_rights.proofs.Rowed.{rowed_long}
use Rattle.acl_rights.proofs.stage.with_changed.Goals as goal

pub with_files-requires-clause-room : goal.with_files-requires-clause-room
with_files-requires-clause-room g c =
    let same = c.all_subjects-users.ensures ∙ ap persons c.people.ensures in
    let changed_are = c.requires.changed in
    let cost = files_cost c.args.staged.now c.args.changed.now c.all_subjects-users.result.now changed_are same in
    omega (arith, cost, c.requires.room)

pub with_files-requires-clause-known : goal.with_files-requires-clause-known
with_files-requires-clause-known g c =
    let V = g.J.Judge.verdict_of in
    let t = c.args.staged.now in
    let es = entries_in c.args.rows.now.rows in
    let order = subst (λ (r : Recorded). IsInOrder r.files) c.tree.ensures c.soundness_law.ensures.order in
    let same = c.all_subjects-users.ensures ∙ ap persons c.people.ensures in
    rows_known V es t c.requires.before (subst (λ (k : Kept LabelRow). IsInOrder (entries_in k)) c.rows.ensures c.order_law.ensures) order c.requires.moved c.all_subjects-users.result.now same

pub with_files-requires-clause-changed : goal.with_files-requires-clause-changed
with_files-requires-clause-changed g c =
    let V = g.J.Judge.verdict_of in
    let t = c.args.staged.now in
    let es = entries_in c.args.rows.now.rows in
    let order = subst (λ (r : Recorded). IsInOrder r.files) c.tree.ensures c.soundness_law.ensures.order in
    let changed_are = c.requires.changed in
    changed_order V es t c.requires.before (subst (λ (k : Kept LabelRow). IsInOrder (entries_in k)) c.rows.ensures c.order_law.ensures) order c.requires.moved
    (map with_label c.args.changed.now) changed_are

pub with_files-requires-clause-gone : goal.with_files-requires-clause-gone
with_files-requires-clause-gone g c =
    let V = g.J.Judge.verdict_of in
    let t = c.args.staged.now in
    let es = entries_in c.args.rows.now.rows in
    let order = subst (λ (r : Recorded). IsInOrder r.files) c.tree.ensures c.soundness_law.ensures.order in
    let gone = map (seen {V = Bor Label}) c.deref.result.now in
    let gone_are = seen_paths t.gone c.deref.result.now (ap (map with_label) c.deref.ensures.value ∙ c.in_ok-gone.ensures ∙ ap labels_of c.gone.ensures) in
    gone_order V es t c.requires.before (subst (λ (k : Kept LabelRow). IsInOrder (entries_in k)) c.rows.ensures c.order_law.ensures) order c.requires.moved gone gone_are

pub with_files-requires-clause-few : goal.with_files-requires-clause-few
with_files-requires-clause-few g c =
    let V = g.J.Judge.verdict_of in
    let t = c.args.staged.now in
    let es = entries_in c.args.rows.now.rows in
    let order = subst (λ (r : Recorded). IsInOrder r.files) c.tree.ensures c.soundness_law.ensures.order in
    let gone = map (seen {V = Bor Label}) c.deref.result.now in
    let gone_are = seen_paths t.gone c.deref.result.now (ap (map with_label) c.deref.ensures.value ∙ c.in_ok-gone.ensures ∙ ap labels_of c.gone.ensures) in
    let same = c.all_subjects-users.ensures ∙ ap persons c.people.ensures in
    let rows = merged (rowed_labels V c.all_subjects-users.result.now (map with_label c.args.changed.now)) gone es in
    let long = rowed_long V (persons t.state.people) rows t.state.tree.files
    (rows_after V es t c.requires.before (subst (λ (k : Kept LabelRow). IsInOrder (entries_in k)) c.rows.ensures c.order_law.ensures) order c.requires.moved (map with_label c.args.changed.now) gone
    c.all_subjects-users.result.now rows c.requires.changed gone_are same refl) in
    let few : length t.state.tree.files ≤ 1048576 = subst (λ (r : Recorded). length r.files ≤ 1048576) c.tree.ensures c.soundness_law.ensures.few in
    omega (arith, long, few)

pub returns-in_err-new-clause-at_most : goal.returns-in_err-new-clause-at_most
returns-in_err-new-clause-at_most g c =
    let same = c.all_subjects-users.ensures ∙ ap persons c.people.ensures in
    let changed_are = c.requires.changed in
    let cost = files_cost c.args.staged.now c.args.changed.now c.all_subjects-users.result.now changed_are same in
    omega (arith, cost, c.with_files.ensures.at_most)

pub returns-clause-at_most : goal.returns-clause-at_most
returns-clause-at_most g c =
    let same = c.all_subjects-users.ensures ∙ ap persons c.people.ensures in
    let changed_are = c.requires.changed in
    let cost = files_cost c.args.staged.now c.args.changed.now c.all_subjects-users.result.now changed_are same in
    omega (arith, cost, c.with_files.ensures.at_most)

pub returns-clause-rows : goal.returns-clause-rows
returns-clause-rows g c =
    let V = g.J.Judge.verdict_of in
    let t = c.args.staged.now in
    let es = entries_in c.args.rows.now.rows in
    let order = subst (λ (r : Recorded). IsInOrder r.files) c.tree.ensures c.soundness_law.ensures.order in
    let changed_are = c.requires.changed in
    let gone = map (seen {V = Bor Label}) c.deref.result.now in
    let gone_are = seen_paths t.gone c.deref.result.now (ap (map with_label) c.deref.ensures.value ∙ c.in_ok-gone.ensures ∙ ap labels_of c.gone.ensures) in
    let same = c.all_subjects-users.ensures ∙ ap persons c.people.ensures in
    let made = rows_after V es t c.requires.before
    (subst (λ (k : Kept LabelRow). IsInOrder (entries_in k)) c.rows.ensures c.order_law.ensures) order c.requires.moved (map with_label c.args.changed.now) gone c.all_subjects-users.result.now
    (entries_in c.in_ok-new.new.0.rows) changed_are gone_are same c.in_ok-new.ensures.rows in
    made

pub returns-clause-most : goal.returns-clause-most
returns-clause-most g c =
    let V = g.J.Judge.verdict_of in
    let t = c.args.staged.now in
    let es = entries_in c.args.rows.now.rows in
    let order = subst (λ (r : Recorded). IsInOrder r.files) c.tree.ensures c.soundness_law.ensures.order in
    let changed_are = c.requires.changed in
    let gone = map (seen {V = Bor Label}) c.deref.result.now in
    let gone_are = seen_paths t.gone c.deref.result.now (ap (map with_label) c.deref.ensures.value ∙ c.in_ok-gone.ensures ∙ ap labels_of c.gone.ensures) in
    let same = c.all_subjects-users.ensures ∙ ap persons c.people.ensures in
    let made = rows_after V es t c.requires.before
    (subst (λ (k : Kept LabelRow). IsInOrder (entries_in k)) c.rows.ensures c.order_law.ensures) order c.requires.moved (map with_label c.args.changed.now) gone c.all_subjects-users.result.now
    (entries_in c.in_ok-new.new.0.rows) changed_are gone_are same c.in_ok-new.ensures.rows in
    changed_most V es t c.requires.before (subst (λ (k : Kept LabelRow). IsInOrder (entries_in k)) c.rows.ensures c.order_law.ensures) order c.requires.moved
    (map with_label c.args.changed.now) gone (entries_in c.in_ok-new.new.0.rows) c.in_ok-new.new.1
    changed_are gone_are made c.in_ok-new.ensures.most
