use Rattle.std.proofs.Common.{◌<◌, length}
use Rattle.path_map.specs.Entries.{seen}
use Rattle.kinds.proofs.PlacedNodes.{all_item}
use Rattle.kinds.proofs.placed.entries_numbered.Goals as goal

pub number_at-requires : goal.number_at-requires
number_at-requires c = all_item seen (λ e. e.1 < length c.args.numbers.now) c.args.entries.now c.loop-entry.entry-index c.entry-item.result c.requires c.loop-entry-test.true c.entry-item.is
