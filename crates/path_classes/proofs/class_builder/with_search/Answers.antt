use Rattle.std.proofs.Common.{ap, ◌∙◌}
use Rattle.kinds.specs.Kinds.{node_at}
use Rattle.path_classes.specs.declared.label_row.LabelRow.{LabelRow}
use Rattle.path_classes.specs.Searching.{searchers}
use Rattle.path_classes.proofs.Growing.{some_is, fills}
use Rattle.path_classes.proofs.class_builder.with_search.Goals as goal

pub returns : goal.returns
returns c =
    let row = some_is (node_at c.args.rows.now c.args.class.now.kind) c.node.result.now c.requires.row c.node.ensures c.requires.has_row in
    let cells = c.as_slice.ensures ∙ ap (λ (r : LabelRow). r.row) row in
    fills c.args.rows.now c.args.classes.now c.args.class.now c.requires c.in_ok-search.search
    (c.in_ok-search.ensures ∙ (λ i. searchers (c.search_of-above.ensures i) (cells i)))
