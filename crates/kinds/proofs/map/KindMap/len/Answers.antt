use Rattle.std.proofs.Common.{◌<◌, length, sym, ap, subst, ◌∙◌}
use Rattle.kinds.specs.Numbered.{Numbers}
use Rattle.kinds.proofs.Chosen.{length_same}
use Rattle.kinds.proofs.map.KindMap.len.Goals as goal

pub len-requires : goal.len-requires
len-requires g c = record {
  few = subst (λ n. n < 18446744073709551616)
      (length_same c.args.self.now.0 c.args.self.now.1 c.numbers.ensures.sound.used ∙ ap (λ (ns : Numbers). length ns) (sym c.numbers.ensures.all)) c.requires.few;
}

pub returns : goal.returns
returns g c = c.len.ensures ∙ ap (λ (ns : Numbers). length ns) c.numbers.ensures.all ∙ sym (length_same c.args.self.now.0 c.args.self.now.1 c.numbers.ensures.sound.used)
