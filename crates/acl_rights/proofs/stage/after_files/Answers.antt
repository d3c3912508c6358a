use Rattle.std.proofs.Common.{◌*◌, length, sym, ap, subst, ◌∙◌, arith}
use Rattle.path_map.specs.Entries.{IsInOrder}
use Rattle.kinds.specs.Numbered.{Kept, entries_in}
use Rattle.path_classes.specs.declared.label_row.LabelRow.{LabelRow}
use Rattle.acl_people.specs.KnownPeople.{KnownPeople, persons}
use Rattle.acl_tree.specs.Files.{Recorded}
use Rattle.acl_names.specs.Paths.{PathOf}
use Rattle.acl_rights.proofs.Orders.{in_order-values}
use Rattle.acl_rights.proofs.Refreshing.{files_most, files_fit}
use Rattle.acl_rights.proofs.Rowed.{rowed_rows, rowed_paths}
use Rattle.acl_rights.proofs.Unlike.{files_unlike}
use Rattle.acl_rights.proofs.Costs.{all_users}
use Rattle.acl_rights.proofs.stage.after_files.Goals as goal

pub overflow_mul-result : goal.overflow_mul-result
overflow_mul-result g c =
    let t = c.args.staged.now in
    let users = c.users.ensures ∙ ap (λ (r : KnownPeople). length r.users) c.people.ensures in
    let fits = files_fit t c.in_ok-new.files c.users.result c.in_ok-new.ensures.most users c.requires.counts in
    omega (arith, fits)

pub returns-clause-after : goal.returns-clause-after
returns-clause-after g c =
    let V = g.J.Judge.verdict_of in
    let t = c.args.staged.now in
    let old : Kept LabelRow = c.args.rows.now.rows in
    let new : Kept LabelRow = c.in_ok-new.new.rows in
    let order = subst (λ (r : Recorded). IsInOrder r.files) c.tree.ensures c.soundness_law.ensures.order in
    let users = c.users.ensures ∙ ap (λ (r : KnownPeople). length r.users) c.people.ensures in
    let files = c.in_ok-new.files in
    let unlike_files = files_unlike old new V g.met.J.Judge.local t c.requires.before.goes
    (in_order-values (λ (e : PathOf × LabelRow). e.1.row) (entries_in old) (subst (λ (k : Kept LabelRow). IsInOrder (entries_in k)) c.rows.ensures c.order_law.ensures)) order
    (rowed_rows V (persons t.state.people) (entries_in new) t.state.tree.files c.in_ok-new.ensures.rows)
    (rowed_paths V (persons t.state.people) (entries_in new) t.state.tree.files c.in_ok-new.ensures.rows) files c.in_ok-new.ensures.least c.requires.moved in
    let most = files_most t files c.users.result c.requires.moved c.in_ok-new.ensures.most users in
    record {
      rows = c.in_ok-new.ensures.rows;
      looked = omega arith;
      least = (let same = ap (λ n. files * n) (all_users t.state.people ∙ sym users) in omega (arith, unlike_files, same));
      most = omega (arith, most);
    }
