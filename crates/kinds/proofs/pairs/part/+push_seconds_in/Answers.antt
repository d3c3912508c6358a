use Rattle.std.proofs.Common.{◌<◌, ◌++◌, length, ap, ◌∙◌, arith}
use Rattle.kinds.proofs.PairHalves.{rising_halves, seconds_in_left, seconds_in_right}
use Rattle.kinds.proofs.pairs.part.+push_seconds_in.Goals as goal

pub push_seconds_in-requires : goal.push_seconds_in-requires
push_seconds_in-requires g t c κs within =
    let less : length c.halves.result.0.now < t = omega (arith, c.halves.ensures.less_left) in
    (less, (within, (rising_halves (λ part. g.P.Part.pairs_of part.value) c.halves.result.2 c.halves.result.0.now c.halves.result.1.now c.args.parts.now c.halves.ensures c.requires).0))

pub push_seconds_in-requires-then-middle-first : goal.push_seconds_in-requires-then-middle-first
push_seconds_in-requires-then-middle-first g t c κs within =
    let less : length c.halves.result.1.now < t = omega (arith, c.halves.ensures.less_right) in
    (less, (within, (rising_halves (λ part. g.P.Part.pairs_of part.value) c.halves.result.2 c.halves.result.0.now c.halves.result.1.now c.args.parts.now c.halves.ensures c.requires).1))

pub push_seconds_in-requires-else-middle-first : goal.push_seconds_in-requires-else-middle-first
push_seconds_in-requires-else-middle-first g t c κs within =
    let less : length c.halves.result.0.now < t = omega (arith, c.halves.ensures.less_left) in
    (less, (within, (rising_halves (λ part. g.P.Part.pairs_of part.value) c.halves.result.2 c.halves.result.0.now c.halves.result.1.now c.args.parts.now c.halves.ensures c.requires).0))

pub push_seconds_in-requires-else-middle-first-2 : goal.push_seconds_in-requires-else-middle-first-2
push_seconds_in-requires-else-middle-first-2 g t c κs within =
    let less : length c.halves.result.1.now < t = omega (arith, c.halves.ensures.less_right) in
    (less, (within, (rising_halves (λ part. g.P.Part.pairs_of part.value) c.halves.result.2 c.halves.result.0.now c.halves.result.1.now c.args.parts.now c.halves.ensures c.requires).1))

pub returns-in_ok-push_seconds_in-in_default : goal.returns-in_ok-push_seconds_in-in_default
returns-in_ok-push_seconds_in-in_default g t c =
    c.in_ok-push_seconds_in-in_default.ensures
    ∙ ap (λ l. c.args.new.now.items ++ l)
    (seconds_in_left (λ part. g.P.Part.pairs_of part.value) c.halves.result.2 c.halves.result.0.now c.halves.result.1.now c.args.parts.now c.halves.ensures c.args.first c.if-first-middle.true)

pub returns-in_ok-push_seconds_in-in_default-2 : goal.returns-in_ok-push_seconds_in-in_default-2
returns-in_ok-push_seconds_in-in_default-2 g t c =
    c.in_ok-push_seconds_in-in_default-2.ensures
    ∙ ap (λ l. c.args.new.now.items ++ l)
    (seconds_in_right (λ part. g.P.Part.pairs_of part.value) c.halves.result.2 c.halves.result.0.now c.halves.result.1.now c.args.parts.now c.halves.ensures c.args.first c.if-middle-first.true)
