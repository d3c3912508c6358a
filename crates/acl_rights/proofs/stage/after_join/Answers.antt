use Rattle.std.proofs.Common.{length, ap, subst, ◌∙◌, arith}
use Rattle.path_map.specs.Entries.{IsInOrder}
use Rattle.kinds.specs.Numbered.{Kept, entries_in}
use Rattle.path_classes.specs.declared.label_row.LabelRow.{LabelRow}
use Rattle.acl_tree.specs.Files.{Recorded}
use Rattle.acl_rights.proofs.NextRows.{rows_after_join, refreshed_joined}
use Rattle.acl_rights.proofs.Unlike.{as_refreshed}
use Rattle.acl_rights.proofs.stage.after_join.Goals as goal

pub returns-clause-after : goal.returns-clause-after
returns-clause-after g c =
    let V = g.J.Judge.verdict_of in
    let t = c.args.staged.now in
    let es = entries_in c.args.rows.now.rows in
    let order = subst (λ (r : Recorded). IsInOrder r.files) c.tree.ensures c.soundness_law.ensures.order in
    let made = c.in_ok-new.ensures.rows ∙ rows_after_join V es t c.requires.before
    (subst (λ (k : Kept LabelRow). IsInOrder (entries_in k)) c.rows.ensures c.order_law.ensures) order c.requires.moved c.joined_user-user.result.now c.joined_user-user.ensures in
    let same = refreshed_joined V es t c.requires.before
    (subst (λ (k : Kept LabelRow). IsInOrder (entries_in k)) c.rows.ensures c.order_law.ensures) order c.requires.moved c.len.result
    (c.len.ensures ∙ ap (λ (k : Kept LabelRow). length (entries_in k)) c.rows-2.ensures) in
    record {
      rows = made;
      looked = omega arith;
      least = as_refreshed V g.met.J.Judge.local es t c.requires.before
          (subst (λ (k : Kept LabelRow). IsInOrder (entries_in k)) c.rows.ensures c.order_law.ensures) order (entries_in c.in_ok-new.new.rows) c.len.result made same;
      most = omega (arith, same);
    }
