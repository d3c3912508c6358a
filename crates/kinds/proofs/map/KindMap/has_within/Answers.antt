use Rattle.std.proofs.Common.{◌∙◌}
use Rattle.acl_names.specs.Below.{encloses}
use Rattle.path_map.specs.Entries.{seen}
use Rattle.kinds.specs.Numbered.{entries_in}
use Rattle.kinds.proofs.Chosen.{first_passes}
use Rattle.kinds.proofs.map.KindMap.has_within.Goals as goal

pub returns : goal.returns
returns g c =
    c.is_some.ensures
    ∙ first_passes (encloses c.args.path.now) (entries_in c.args.self.now) c.paths_within.result c.next.new.self c.next.result seen c.paths_within.ensures c.next.ensures
