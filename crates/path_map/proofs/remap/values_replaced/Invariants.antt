use Rattle.std.proofs.Common.{◌≡◌, ◌++◌, ◌≤◌, length, map, drop}
use Rattle.path_map.specs.Entries.{seen, found}
use Rattle.path_map.specs.Changed.{with_values}
use Rattle.path_map.proofs.remap.values_replaced.Given as goal

abbrev pub invariant-loop-put : goal.invariant-loop-put
invariant-loop-put g l = record {
  in_range : l.at ≤ length l.run;
  all : l.new.items ++ map (λ e. e.1) (with_values (map seen (drop l.put-index l.puts)) (drop l.at l.run)) ≡ map (λ e. e.1) (with_values (map seen l.puts) l.run);
  was : l.was.items ++ found (map seen (drop l.put-index l.puts)) (drop l.at l.run) ≡ l.fn.was.items ++ found (map seen l.puts) l.run;
}
