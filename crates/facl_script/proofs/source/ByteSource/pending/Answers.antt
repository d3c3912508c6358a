use Rattle.std.proofs.Common.{◌≤◌, ◌-◌, drop, arith, length-take}
use Rattle.facl_script.proofs.source.ByteSource.pending.Goals as goal

pub returns-clause-within : goal.returns-clause-within
returns-clause-within c =
    let s = c.args.self.now in
    let end : s.end ≤ 65536 = s.in_chunk in
    omega (arith, end, length-take (s.end - s.start) (drop s.start s.chunk))
