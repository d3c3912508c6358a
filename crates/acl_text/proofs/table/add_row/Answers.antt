use Rattle.std.proofs.Common.{Some, arith}
use Rattle.std.proofs.lemmas.Grind.{common_steps}
use Rattle.std.proofs.lemmas.Map.Text.{btree_map_updates_str}
use Rattle.acl_text.proofs.Counted.{seen_more}
use Rattle.acl_text.proofs.table.add_row.Goals as goal

pub returns-clause-seen : goal.returns-clause-seen
returns-clause-seen g c =
    let updates = btree_map_updates_str c.args.name.now c.args.seen.now c.insert.new.self (Some tt) c.in_ok-insert.ensures.updates in
    let more = seen_more g.R.TableRow.name c.args.seen.now c.insert.new.self c.args.rows.now.items c.args.row c.requires.seen c.args.name.now c.requires.name updates in
    λ name. grind (arith, common_steps, more name)
