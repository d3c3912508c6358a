use Rattle.std.proofs.Common.{length, ◌/◌, take, sym, ap, ◌∙◌, arith}
use Rattle.kinds.proofs.PairHalves.{halves_of}
use Rattle.kinds.proofs.pairs.part.halves.Goals as goal

pub returns : goal.returns
returns g c =
    halves_of (λ part. g.P.Part.pairs_of part.value) c.args.parts.now c.split_at.result.0.now c.split_at.result.1.now (length c.args.parts.now / 2) c.index-right-0.result c.first.result
    c.split_at.ensures.front c.split_at.ensures.back c.split_at.ensures.front_len c.split_at.ensures.back_len (omega arith) (omega arith) c.index-right-0.is
    (ap (λ v. take 1 (g.P.Part.pairs_of v)) (sym c.deref.ensures) ∙ c.first.ensures) c.requires.rising
