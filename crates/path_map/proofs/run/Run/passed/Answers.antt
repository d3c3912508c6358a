use Rattle.std.proofs.Common.{rules, of_calls, arith}
use Rattle.std.proofs.lemmas.List.Sorted.{IsPartitionPoint-from_clause}
use Rattle.path_map.specs.Below.{is_passed}
use Rattle.path_map.proofs.Zipped.{length_of}
use Rattle.path_map.proofs.Passed.{paths_passed, after_passed}
use Rattle.path_map.proofs.run.Run.passed.Goals as goal

pub returns-clause-few : goal.returns-clause-few
returns-clause-few g c =
    let i = c.self.inside in
    omega (arith, c.partition_point.ensures.bound, length_of i.paths.now i.values.now c.args.self.now c.self.invariant c.self.view_is)

pub returns-clause-rest : goal.returns-clause-rest
returns-clause-rest g c =
    let i = c.self.inside in
    after_passed i.paths.now i.values.now c.args.self.now c.self.invariant c.self.view_is c.args.top.now c.partition_point.result
    (IsPartitionPoint-from_clause (λ q. is_passed c.args.top.now q) i.paths.now c.partition_point.result c.partition_point.ensures.partitioned
    (paths_passed i.paths.now i.values.now c.args.self.now c.self.invariant c.self.view_is c.args.top.now c.requires) (λ a r f k. search (rules, of_calls)))
