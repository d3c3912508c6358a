use Rattle.std.proofs.Common.{sym, ap, ◌∙◌}
use Rattle.std.specs.Prelude.{option_and_then}
use Rattle.std.specs.FinMap.{find}
use Rattle.acl_names.specs.Paths.{path_cmp}
use Rattle.kinds.specs.Kinds.{node_at}
use Rattle.kinds.proofs.Counts.{found_entry}
use Rattle.kinds.proofs.finder.KindsFinder.get.Goals as goal

pub returns-clause-found : goal.returns-clause-found
returns-clause-found g c =
    let p = c.args.path.now in
    let k = c.self.inside.kinds.now in
    c.node_of.ensures
    ∙ ap (option_and_then (node_at k)) c.get-number.ensures.found
    ∙ sym (found_entry k p c.self.inside.numbers c.self.invariant)
    ∙ ap (find path_cmp p) c.self.view_is
