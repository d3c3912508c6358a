use Rattle.std.proofs.Common.{subst}
use Rattle.acl_tree.specs.Files.{Recorded}
use Rattle.path_map.specs.Entries.{IsInOrder}
use Rattle.facl_answers.proofs.Unchanged.{none_differs, nothing_printed}
use Rattle.facl_answers.proofs.laws.changes_print_all_that_differs.Goals as goal

pub returns-clause-silent : goal.returns-clause-silent
returns-clause-silent c V along = nothing_printed V along c.args.loaded.now c.args.state.now

pub returns-clause-complete : goal.returns-clause-complete
returns-clause-complete c V along =
    none_differs V along c.args.loaded.now c.args.state.now (subst (λ (t : Recorded). IsInOrder t.files) c.tree.ensures c.soundness_law.ensures.order)
