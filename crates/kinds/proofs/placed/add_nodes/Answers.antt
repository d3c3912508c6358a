use Rattle.std.proofs.Common.{◌++◌, [], ◌∷◌, ℕ, List, Option, map, take, sym, subst}
use Rattle.kinds.specs.Placed.{given, AddsNodes}
use Rattle.kinds.proofs.EntriesBy.{items_more}
use Rattle.kinds.proofs.placed.add_nodes.Goals as goal

pub loop-node-preserved : goal.loop-node-preserved
loop-node-preserved g c =
    let i = c.loop-node.node-index in
    let done = map (given c.args.kinds) (take i c.args.nodes.now) in
    subst (λ (nodes : List (Option g.row.N.Denot)). AddsNodes c.args.kinds nodes c.push.new.self.items c.in_ok-added.added)
    (sym (items_more (given c.args.kinds) c.args.nodes.now i c.node-item.result c.loop-node-test.true c.node-item.is))
    (subst (λ (numbers : List ℕ). AddsNodes c.args.kinds (done ++ given c.args.kinds c.node-item.result ∷ []) numbers c.in_ok-added.added) (sym c.in_ok-push.ensures.items)
    (c.in_ok-added.ensures c.args.kinds done c.loop-node.numbers.items c.loop-node.invariant))
