use Rattle.std.proofs.Common.{◌≤◌, length, sym, ap, subst, ◌∙◌}
use Rattle.kinds.specs.Numbered.{Kept, entries_in}
use Rattle.path_classes.specs.declared.label_row.LabelRow.{LabelRow}
use Rattle.path_classes.specs.ClassedRows.{AreCounted}
use Rattle.acl_rights.proofs.kind_rows.KindRows.with_own_rows.Goals as goal

pub with_counted_rows-requires : goal.with_counted_rows-requires
with_counted_rows-requires c = ap (λ (k : Kept LabelRow). k.1) c.in_ok-tagged.ensures ∙ c.requires

pub returns-clause-rows : goal.returns-clause-rows
returns-clause-rows c = ap (λ (k : Kept LabelRow). entries_in k) (c.in_ok-new.ensures.rows ∙ c.in_ok-tagged.ensures)

pub returns-clause-least : goal.returns-clause-least
returns-clause-least c = subst (λ (k : Kept LabelRow). AreCounted c.args.self.now.rows k c.in_ok-new.new.1) (sym c.in_ok-new.ensures.rows) c.in_ok-new.ensures.least

pub returns-clause-most : goal.returns-clause-most
returns-clause-most c = subst (λ (k : Kept LabelRow). c.in_ok-new.new.1 ≤ length k.1) c.in_ok-tagged.ensures c.in_ok-new.ensures.most
