use Rattle.std.proofs.Common.{map, ap, ◌∙◌}
use Rattle.acl_names.specs.Below.{encloses}
use Rattle.path_map.specs.Below.{within}
use Rattle.kinds.specs.Numbered.{Numbers}
use Rattle.kinds.proofs.Chosen.{paths_filter}
use Rattle.kinds.proofs.map.KindMap.paths_within.Goals as goal

pub returns : goal.returns
returns g c =
    let p = c.args.path.now in
    ap (map (λ e. e.0)) (c.within.ensures ∙ ap (λ (ns : Numbers). within p ns) c.numbers.ensures.all)
    ∙ paths_filter c.args.self.now.0 (encloses p) c.args.self.now.1 c.numbers.ensures.sound.used
