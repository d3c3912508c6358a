use Rattle.std.proofs.Common.{◌-◌, ◌<◌, ◌≤◌, true, false, Global, length, get_or}
use Rattle.std.specs.declared.rc.Rc.{Rc}
use Rattle.path_map.specs.Inner.{BeginsPassed}
use Rattle.path_map.proofs.part.count_passed.Given as goal

abbrev pub invariant-loop-low : goal.invariant-loop-low
invariant-loop-low g l = record {
  ordered : l.low ≤ l.high;
  in_range : l.high ≤ length l.parts;
  last : (d : Rc g.row.P.Denot Global) → 0 < l.low → BeginsPassed true (g.P.Part.entries_of (get_or l.parts (l.low - 1) d).value) l.top;
  next : (d : Rc g.row.P.Denot Global) → l.high < length l.parts → BeginsPassed false (g.P.Part.entries_of (get_or l.parts l.high d).value) l.top;
}

abbrev pub decreases-loop-low : goal.decreases-loop-low
decreases-loop-low g l = l.high - l.low
