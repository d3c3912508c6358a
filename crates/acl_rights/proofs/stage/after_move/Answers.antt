use Rattle.std.proofs.Common.{ℕ, List, sym, ap, subst, ◌∙◌, arith}
use Rattle.path_map.specs.Entries.{IsInOrder}
use Rattle.kinds.specs.Numbered.{Kept, entries_in}
use Rattle.path_classes.specs.declared.label_row.LabelRow.{LabelRow}
use Rattle.acl_names.specs.Paths.{PathOf}
use Rattle.acl_people.specs.KnownPeople.{persons}
use Rattle.acl_rights.proofs.Orders.{in_order-values}
use Rattle.acl_rights.proofs.Rowed.{rowed_rows, rowed_paths}
use Rattle.acl_rights.proofs.Unlike.{moved_unlike}
use Rattle.acl_tree.specs.Files.{Recorded}
use Rattle.acl_tree.specs.declared.user_change.UserChange.TheVariants.{Memberships}
use Rattle.acl_rights.proofs.NextRows.{looked_cost, looked_moved, refreshed_moved, rows_after_move}
use Rattle.acl_rights.proofs.stage.after_move.Goals as goal

pub with_user_updated-requires : goal.with_user_updated-requires
with_user_updated-requires g c =
    let V = g.J.Judge.verdict_of in
    let t = c.args.staged.now in
    let es = entries_in c.args.rows.now.rows in
    let order = subst (λ (r : Recorded). IsInOrder r.files) c.tree.ensures c.soundness_law.ensures.order in
    let groups = c.as_slice-groups.result.now in
    let is = c.requires.moved ∙ ap (λ (ids : List ℕ). Memberships c.args.at ids) (sym c.as_slice-groups.ensures) in
    let cost = looked_cost V es t c.requires.before (subst (λ (k : Kept LabelRow). IsInOrder (entries_in k)) c.rows.ensures c.order_law.ensures) order c.args.at groups is in
    record { room = omega (arith, cost, c.requires.room) }

pub returns-clause-after : goal.returns-clause-after
returns-clause-after g c =
    let V = g.J.Judge.verdict_of in
    let t = c.args.staged.now in
    let old : Kept LabelRow = c.args.rows.now.rows in
    let es = entries_in old in
    let new : Kept LabelRow = c.in_ok-updated.updated.rows.rows in
    let order = subst (λ (r : Recorded). IsInOrder r.files) c.tree.ensures c.soundness_law.ensures.order in
    let groups = c.as_slice-groups.result.now in
    let is = c.requires.moved ∙ ap (λ (ids : List ℕ). Memberships c.args.at ids) (sym c.as_slice-groups.ensures) in
    let made = c.in_ok-updated.ensures.rows
    ∙ rows_after_move V es t c.requires.before
    (subst (λ (k : Kept LabelRow). IsInOrder (entries_in k)) c.rows.ensures c.order_law.ensures) order c.args.at groups is g.met.J.Judge.local c.moved_user-user.result.now c.moved_user-user.ensures in
    let least = moved_unlike old new V g.met.J.Judge.local t c.requires.before.goes
    (in_order-values (λ (e : PathOf × LabelRow). e.1.row) es (subst (λ (k : Kept LabelRow). IsInOrder (entries_in k)) c.rows.ensures c.order_law.ensures)) order
    (rowed_rows V (persons t.state.people) (entries_in new) t.state.tree.files made)
    (rowed_paths V (persons t.state.people) (entries_in new) t.state.tree.files made) c.in_ok-updated.updated.refreshed c.in_ok-updated.ensures.least c.args.at groups is in
    let most = refreshed_moved V es t c.requires.before
    (subst (λ (k : Kept LabelRow). IsInOrder (entries_in k)) c.rows.ensures c.order_law.ensures) order c.args.at groups is c.in_ok-updated.updated.refreshed c.in_ok-updated.ensures.most in
    record {
      rows = made;
      looked = looked_moved V es t c.requires.before
          (subst (λ (k : Kept LabelRow). IsInOrder (entries_in k)) c.rows.ensures c.order_law.ensures) order c.args.at groups is c.in_ok-updated.updated.looked c.in_ok-updated.ensures.few;
      least = omega (arith, least);
      most = omega (arith, most);
    }
