use Rattle.std.proofs.Common.{arith}
use Rattle.kinds.specs.Numbered.{entries_in}
use Rattle.path_map_tests.proofs.OwnNodes.{weighs_nothing}
use Rattle.path_map_tests.proofs.nodes.with_nines.Goals as goal

-- a renewal asks that its count has room, and this one counts nothing
pub renewed-requires : goal.renewed-requires
renewed-requires g c = let sum = weighs_nothing (entries_in c.args.map.now) in record { room = omega (arith, sum) }
