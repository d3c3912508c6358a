use Rattle.std.proofs.Common.{◌-◌, ◌<◌, ◌≤◌, Global, length, get_or}
use Rattle.std.specs.declared.rc.Rc.{Rc}
use Rattle.path_map.specs.Inner.{BeginsBy, BeginsAfter}
use Rattle.path_map.proofs.part.count_up_to_borrowed.Given as goal

abbrev pub invariant-loop-low : goal.invariant-loop-low
invariant-loop-low g l = record {
  ordered : l.low ≤ l.high;
  in_range : l.high ≤ length l.parts;
  last : (d : Rc g.row.P.Denot Global) → 0 < l.low → BeginsBy (g.P.Part.entries_of (get_or l.parts (l.low - 1) d).value) l.path;
  next : (d : Rc g.row.P.Denot Global) → l.high < length l.parts → BeginsAfter (g.P.Part.entries_of (get_or l.parts l.high d).value) l.path;
}

abbrev pub decreases-loop-low : goal.decreases-loop-low
decreases-loop-low g l = l.high - l.low
