use Rattle.std.proofs.Common.{◌≡◌, length, ap, ◌∙◌, arith}
use Rattle.kinds.specs.Renewed.{renewed_before}
use Rattle.kinds.specs.Given.{shared_nodes}
use Rattle.path_map_tests.proofs.OwnNodes.{nodes_long, nodes_have}
use Rattle.path_map_tests.proofs.nodes.with_its_nodes.Goals as goal

pub with_nodes-requires-clause-long : goal.with_nodes-requires-clause-long
with_nodes-requires-clause-long g c =
    let k = c.args.map.now.0 in
    let end : c.loop-number.number ≡ length k.0 = omega (arith, c.loop-number-test.false, c.loop-number.auto.number-end, c.numbers_len-number-end.ensures) in
    nodes_long k c.args.map.now.1 c.deref.result.now c.kinds-kinds.ensures.sound (ap (λ l. shared_nodes l) c.deref.ensures.value ∙ c.loop-number.invariant ∙ ap (renewed_before (λ x. x) k) end)

pub with_nodes-requires-clause-used : goal.with_nodes-requires-clause-used
with_nodes-requires-clause-used g c =
    let k = c.args.map.now.0 in
    let end : c.loop-number.number ≡ length k.0 = omega (arith, c.loop-number-test.false, c.loop-number.auto.number-end, c.numbers_len-number-end.ensures) in
    nodes_have k c.args.map.now.1 c.deref.result.now c.kinds-kinds.ensures.sound (ap (λ l. shared_nodes l) c.deref.ensures.value ∙ c.loop-number.invariant ∙ ap (renewed_before (λ x. x) k) end)
