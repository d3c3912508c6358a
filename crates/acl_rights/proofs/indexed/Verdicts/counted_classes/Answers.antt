use Rattle.std.proofs.Common.{map, subst}
use Rattle.std.specs.Prelude.{slice_get}
use Rattle.path_classes.specs.ReachedRows.{rows_along}
use Rattle.path_classes.specs.Rows.{Rows}
use Rattle.path_classes.specs.Tallies.{class_tally, AreTallied}
use Rattle.acl_rights.proofs.indexed.Verdicts.counted_classes.Goals as goal

pub returns : goal.returns
returns g c =
    subst (λ (rows : Rows). AreTallied (slice_get c.in_ok-found.found.0.0) (rows_along c.args.self.now.along rows) (map class_tally c.in_ok-found.found.1.items)) c.index-index.ensures.rows
    c.in_ok-found.ensures
