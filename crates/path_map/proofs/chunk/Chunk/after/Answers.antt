use Rattle.std.proofs.Common.{sym, ap, ◌∙◌}
use Rattle.path_map.specs.Below.{after}
use Rattle.path_map.proofs.chunk.Chunk.after.Goals as goal

pub returns : goal.returns
returns g c = c.back.ensures ∙ sym c.passed.ensures.rest ∙ ap (λ es. after c.args.top.now es) c.run-run.ensures.all
