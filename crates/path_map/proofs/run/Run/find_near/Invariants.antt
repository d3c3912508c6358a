use Rattle.std.proofs.Common.{◌≡◌, ◌-◌, ◌<◌, ◌≤◌, Less, Greater, length, get_or}
use Rattle.acl_names.specs.Paths.{PathOf, path_cmp}
use Rattle.path_map.proofs.run.Run.find_near.Given as goal

abbrev pub invariant-loop-low : goal.invariant-loop-low
invariant-loop-low g l = record {
  ordered : l.low ≤ l.high;
  in_range : l.high ≤ length l.self;
  last : (d : PathOf × g.row.V.Denot) → 0 < l.low → path_cmp l.path (get_or l.self (l.low - 1) d).0 ≡ Greater;
  next : (d : PathOf × g.row.V.Denot) → l.high < length l.self → path_cmp l.path (get_or l.self l.high d).0 ≡ Less;
}

abbrev pub decreases-loop-low : goal.decreases-loop-low
decreases-loop-low g l = l.high - l.low
