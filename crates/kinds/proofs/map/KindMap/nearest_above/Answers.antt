use Rattle.std.proofs.Common.{sym, ap, subst, ◌∙◌}
use Rattle.std.specs.Prelude.{option_map}
use Rattle.path_map.specs.Entries.{seen}
use Rattle.path_map.specs.Below.{nearest_above}
use Rattle.kinds.specs.Kinds.{KindsOf, node_at, IsNode}
use Rattle.kinds.specs.Numbered.{Numbers}
use Rattle.kinds.specs.Puts.{borrowed}
use Rattle.kinds.proofs.Nearest.{nearest_used, nearest_node, nearest_none}
use Rattle.kinds.proofs.map.KindMap.nearest_above.Goals as goal

pub node-node-requires : goal.node-node-requires
node-node-requires g c =
    let found = ap (λ (ns : Numbers). nearest_above c.args.path.now ns) (sym c.numbers.ensures.all) ∙ sym c.in_ok-entry.ensures in
    subst (λ k. IsNode k c.in_ok-entry.entry.1) (sym c.kinds.ensures.all)
    (nearest_used c.args.self.now.0 c.args.path.now c.args.self.now.1 (seen c.in_ok-entry.entry) c.numbers.ensures.sound.used found)

pub returns : goal.returns
returns g c =
    let found = ap (λ (ns : Numbers). nearest_above c.args.path.now ns) (sym c.numbers.ensures.all) ∙ sym c.in_ok-entry.ensures in
    let node = ap (λ (k : KindsOf g.row.N.Denot). node_at k c.in_ok-entry.entry.1) (sym c.kinds.ensures.all) ∙ c.node-node.ensures in
    sym (nearest_node c.args.self.now.0 c.args.path.now c.args.self.now.1 (seen c.in_ok-entry.entry) c.node-node.result.now c.numbers.ensures.sound.used found node)

pub returns-in_err-entry : goal.returns-in_err-entry
returns-in_err-entry g c =
    let none = ap (λ (ns : Numbers). nearest_above c.args.path.now ns) (sym c.numbers.ensures.all) ∙ sym c.in_err-entry.ensures in
    ap (option_map borrowed) c.from_residual.ensures
    ∙ sym (nearest_none c.args.self.now.0 c.args.path.now c.args.self.now.1 c.numbers.ensures.sound.used none)
