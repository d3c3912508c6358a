use Rattle.std.proofs.Common.{subst, ◌∙◌, arith}
use Rattle.path_map.specs.Entries.{IsInOrder}
use Rattle.kinds.specs.Numbered.{Kept, entries_in}
use Rattle.path_classes.specs.declared.label_row.LabelRow.{LabelRow}
use Rattle.acl_tree.specs.Files.{Recorded}
use Rattle.acl_rights.proofs.NextRows.{rows_after_leave, refreshed_left}
use Rattle.acl_rights.proofs.Unlike.{as_refreshed}
use Rattle.acl_rights.proofs.stage.after_leave.Goals as goal

pub returns : goal.returns
returns g c =
    let V = g.J.Judge.verdict_of in
    let t = c.args.staged.now in
    let es = entries_in c.args.rows.now.rows in
    let order = subst (λ (r : Recorded). IsInOrder r.files) c.tree.ensures c.soundness_law.ensures.order in
    let made = c.in_ok-new.ensures ∙ rows_after_leave V es t c.requires.before
    (subst (λ (k : Kept LabelRow). IsInOrder (entries_in k)) c.rows.ensures c.order_law.ensures) order c.args.at c.requires.moved in
    let same = refreshed_left V es t c.requires.before (subst (λ (k : Kept LabelRow). IsInOrder (entries_in k)) c.rows.ensures c.order_law.ensures) order c.args.at c.requires.moved in
    record {
      rows = made;
      looked = omega arith;
      least = as_refreshed V g.met.J.Judge.local es t c.requires.before
          (subst (λ (k : Kept LabelRow). IsInOrder (entries_in k)) c.rows.ensures c.order_law.ensures) order (entries_in c.in_ok-new.new.rows) 0 made same;
      most = omega (arith, same);
    }
