use Rattle.std.proofs.Common.{◌++◌, ◌∷◌, [], sym, subst}
use Rattle.kinds.specs.Kinds.{Adds}
use Rattle.kinds.specs.declared.placed.GivenNode.{GivenNode}
use Rattle.kinds.specs.Placed.{given, AddsNodes}
use Rattle.kinds.proofs.PlacedNodes.{nodes_more, nodes_known}
use Rattle.kinds.proofs.placed.add_node.Goals as goal

pub returns-in_ok-new-in-New : goal.returns-in_ok-new-in-New
returns-in_ok-new-in-New g c = λ old nodes numbers h.
    let k = c.args.kinds in
    let adds : Adds k c.in-New.node.value c.in_ok-new-in-New.new.1 c.in_ok-new-in-New.new.0 =
    subst (λ (x : g.row.N.Denot). Adds k x c.in_ok-new-in-New.new.1 c.in_ok-new-in-New.new.0) c.in_ok-clone-in-New.ensures.cases c.in_ok-new-in-New.ensures in
    subst (λ (node : GivenNode g.row.N.Denot). AddsNodes old (nodes ++ given old node ∷ []) (numbers ++ c.in_ok-new-in-New.new.1 ∷ []) c.in_ok-new-in-New.new.0) (sym c.in-New.is)
    (nodes_more old k c.in_ok-new-in-New.new.0 nodes numbers c.in-New.node.value c.in_ok-new-in-New.new.1 h adds)

pub returns-in-Known : goal.returns-in-Known
returns-in-Known g c = λ old nodes numbers h.
    subst (λ (node : GivenNode g.row.N.Denot). AddsNodes old (nodes ++ given old node ∷ []) (numbers ++ c.in-Known.number ∷ []) c.args.kinds) (sym c.in-Known.is)
    (nodes_known old c.args.kinds nodes numbers c.in-Known.number h)
