use Rattle.std.proofs.Common.{◌<◌, length, sym, ◌∙◌, arith}
use Rattle.path_map.specs.Entries.{seen}
use Rattle.path_map.proofs.Zipped.{found_at, missed_at, passed_at}
use Rattle.path_map.proofs.run.Run.get.Goals as goal

pub returns-then-before-len : goal.returns-then-before-len
returns-then-before-len g c = sym (passed_at c.args.self.now c.args.path.now c.start-before.result c.start-before.ensures (c.if-before-len.true ∙ c.len.ensures))

pub returns-in-Equal : goal.returns-in-Equal
returns-in-Equal g c =
    let lt : c.start-before.result < length c.args.self.now = omega (arith, c.start-before.ensures.in_range, c.if-before-len.false, c.len.ensures) in
    sym (found_at c.args.self.now c.args.path.now c.start-before.result (seen c.at-value.result) c.start-before.ensures lt c.at-value.ensures (sym c.order.ensures ∙ c.in-Equal.is))

pub returns-in_default : goal.returns-in_default
returns-in_default g c =
    let lt : c.start-before.result < length c.args.self.now = omega (arith, c.start-before.ensures.in_range, c.if-before-len.false, c.len.ensures) in
    sym (missed_at c.args.self.now c.requires c.args.path.now c.start-before.result (seen c.at-value.result) c.start-before.ensures lt c.at-value.ensures
    (λ same. c.in_default.not-Equal (c.order.ensures ∙ same)))
