use Rattle.std.proofs.Common.{ap, subst, ◌∙◌}
use Rattle.kinds.specs.Numbered.{Kept, entries_in}
use Rattle.path_classes.specs.declared.label_row.LabelRow.{LabelRow}
use Rattle.kinds.specs.Given.{shared_nodes}
use Rattle.acl_rights.specs.KindRows.{shared_rows, AreOfEntries}
use Rattle.acl_rights.proofs.RowsOfNumbers.{rows_of_entries, rows_long, rows_have, rows_rowed}
use Rattle.acl_rights.proofs.kind_rows.KindRows.of_kinds.Goals as goal

pub rows_of_numbers-requires-clause-known : goal.rows_of_numbers-requires-clause-known
rows_of_numbers-requires-clause-known g c =
    rows_of_entries g.J.Judge.verdict_of c.args.users.now (shared_rows c.in_ok-known.known.rows.items) (entries_in c.args.self.now.rows)
    (subst (λ (kept : Kept LabelRow). AreOfEntries (shared_rows c.in_ok-known.known.rows.items) (entries_in kept)) (c.map.ensures ∙ c.rows-before.ensures)
    c.in_ok-known.ensures)
    c.requires.known

pub with_rows_of-requires-clause-long : goal.with_rows_of-requires-clause-long
with_rows_of-requires-clause-long g c =
    rows_long g.J.Judge.verdict_of c.args.users.now c.args.files.now.0 c.args.files.now.1 c.deref.result.now c.kinds-kinds.ensures.sound
    (ap (λ l. shared_nodes l) c.deref.ensures.value ∙ c.in_ok-nodes.ensures.rows)

pub with_rows_of-requires-clause-used : goal.with_rows_of-requires-clause-used
with_rows_of-requires-clause-used g c =
    rows_have g.J.Judge.verdict_of c.args.users.now c.args.files.now.0 c.args.files.now.1 c.deref.result.now c.kinds-kinds.ensures.sound
    (ap (λ l. shared_nodes l) c.deref.ensures.value ∙ c.in_ok-nodes.ensures.rows)

pub returns-clause-rows : goal.returns-clause-rows
returns-clause-rows g c =
    c.in_ok-new.ensures.rows
    ∙ rows_rowed g.J.Judge.verdict_of c.args.users.now c.args.files.now.0 c.args.files.now.1 c.deref.result.now c.kinds-kinds.ensures.sound
    (ap (λ l. shared_nodes l) c.deref.ensures.value ∙ c.in_ok-nodes.ensures.rows)
