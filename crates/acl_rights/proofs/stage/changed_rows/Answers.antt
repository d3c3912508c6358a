use Rattle.std.proofs.Common.{◌≡◌, true, length, ap, sym, subst, ◌∙◌}
use Rattle.std.specs.Prelude.{count_by}
use Rattle.acl_names.specs.Paths.{PathOf}
use Rattle.acl_edit.specs.declared.node.Node.{Node}
use Rattle.kinds.specs.Numbered.{Kept, entries_in}
use Rattle.path_map.specs.Entries.{IsInOrder}
use Rattle.path_map.specs.Below.{lies_in}
use Rattle.path_classes.specs.declared.label_row.LabelRow.{LabelRow}
use Rattle.acl_people.specs.KnownPeople.{persons}
use Rattle.acl_tree.specs.Files.{Files, Recorded}
use Rattle.acl_rights.proofs.Counted.{all_counted}
use Rattle.acl_rights.specs.KindRows.{AsManyAreSame}
use Rattle.acl_rights.proofs.NextRows.{rows_known, all_most, as_many_same}
use Rattle.acl_rights.proofs.stage.changed_rows.Goals as goal

pub of_kinds-requires-clause-known : goal.of_kinds-requires-clause-known
of_kinds-requires-clause-known g c =
    let order = subst (λ (r : Recorded). IsInOrder r.files) c.tree.ensures c.soundness_law.ensures.order in
    let same = c.all_subjects-users.ensures ∙ ap persons c.people.ensures in
    let known = subst (λ (k : Kept LabelRow). IsInOrder (entries_in k)) c.rows.ensures c.order_law.ensures in
    rows_known g.J.Judge.verdict_of (entries_in c.args.rows.now.rows) c.args.staged.now c.requires.before known order c.requires.moved c.all_subjects-users.result.now same

pub of_kinds-requires-clause-same : goal.of_kinds-requires-clause-same
of_kinds-requires-clause-same g c = λ h.
    let rows = entries_in c.args.rows.now.rows in
    let order = subst (λ (r : Recorded). IsInOrder r.files) c.tree.ensures c.soundness_law.ensures.order in
    let known = subst (λ (k : Kept LabelRow). IsInOrder (entries_in k)) c.rows.ensures c.order_law.ensures in
    let files = c.files_by_path-files.ensures.all ∙ ap (λ (r : Recorded). r.files) (c.files_whole.ensures ∙ c.tree-2.ensures) in
    subst (λ (fs : Files). AsManyAreSame rows fs) (sym files)
    (as_many_same g.J.Judge.verdict_of rows c.args.staged.now c.requires.before known order (c.keeps_files.ensures h))

pub returns-in-None-clause-most : goal.returns-in-None-clause-most
returns-in-None-clause-most g c =
    let t = c.args.staged.now in
    let lie : (p : PathOf) → lies_in t.changed p ≡ true =
    subst (λ (l : Files). (p : PathOf) → lies_in l p ≡ true) c.changed.ensures (c.begin_at_root.ensures c.if-not-begin_at_root.false) in
    let files = c.files_by_path-files.ensures.all ∙ ap (λ (r : Recorded). r.files) (c.files_whole.ensures ∙ c.tree-2.ensures) in
    let counted = all_counted (λ (e : PathOf × Node). lies_in t.changed e.0) (λ e. lie e.0) t.state.tree.files in
    let all = length (entries_in c.files_by_path-files.result.now) in
    all_most c.of_kinds.result all (count_by (λ e. lies_in t.changed e.0) t.state.tree.files) c.of_kinds.ensures.most (ap length files ∙ sym counted)
