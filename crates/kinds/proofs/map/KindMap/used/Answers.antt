use Rattle.std.proofs.Common.{◌≡◌, ◌<◌, Some, sym, ap, arith, ◌∙◌}
use Rattle.std.specs.Option.{option_copied}
use Rattle.kinds.specs.Kinds.{KindsOf, node_at, count_at}
use Rattle.kinds.specs.Numbered.{paths_with}
use Rattle.kinds.proofs.PlacedNodes.{used_entry}
use Rattle.kinds.proofs.map.KindMap.used.Goals as goal

pub returns-in-Some-clause-entry : goal.returns-in-Some-clause-entry
returns-in-Some-clause-entry g c =
    let k : KindsOf g.row.N.Denot = c.args.self.now.0 in
    let ns = c.args.self.now.1 in
    let n = c.args.number in
    let sound = c.kinds-kinds.ensures.sound in
    let count : c.count.result ≡ paths_with n ns = c.count.ensures ∙ ap (λ (k : KindsOf g.row.N.Denot). count_at k n) c.kinds-kinds.ensures.all ∙ sound.counted n in
    let some : 0 < paths_with n ns = let other = c.if-count-eq0.false in omega (arith, count, other) in
    let node : node_at k n ≡ Some c.in-Some.node.now =
    ap (λ (k : KindsOf g.row.N.Denot). node_at k n) (sym c.kinds-kinds.ensures.all) ∙ sym c.get.ensures ∙ ap option_copied c.in-Some.is in
    used_entry k ns n c.in-Some.node.now sound.used some node
