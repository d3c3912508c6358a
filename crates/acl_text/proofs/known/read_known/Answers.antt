use Rattle.std.proofs.Common.{ap, arith}
use Rattle.acl_text.specs.SameBodies.{rest_of}
use Rattle.acl_text.proofs.known.read_known.Goals as goal

pub loop-rest-init : goal.loop-rest-init
loop-rest-init g c = record {
  place = omega arith;
  known = λ k among. absurd (c.in_ok-bodies.ensures k among);
  goes_on = ap (λ rs. rest_of (g.N.Names.naming c.args.reading.now.names.now) c.args.reading.now.dump_use rs 1 c.args.bytes.now) c.new-records.ensures.items;
}
