use Rattle.std.proofs.Common.{[], ap, ◌∙◌}
use Rattle.path_map.specs.Below.{from}
use Rattle.path_classes.specs.ReachedRows.{rows_along}
use Rattle.acl_rights.proofs.indexed.Verdicts.classes_from.Goals as goal

pub returns : goal.returns
returns g c = c.file_classes_from.ensures ∙ ap (λ rows. ([], from c.args.top.now (rows_along c.args.self.now.along rows))) c.index-index.ensures.rows
