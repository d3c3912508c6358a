use Rattle.std.proofs.Common.{◌≡◌, ◌++◌, length, take, drop, map}
use Rattle.facl_answers.specs.Inner.{row_lines}
use Rattle.facl_answers.proofs.index.push_row.Given as goal

abbrev pub invariant-loop-name : goal.invariant-loop-name
invariant-loop-name l = record {
  lines : l.text.items ++ row_lines l.path (map (λ n. n.items) (drop l.name-index l.names)) l.rest ≡ l.initial.text.items ++ row_lines l.path (map (λ n. n.items) l.names) l.row;
  begins : take (length l.initial.text.items) l.text.items ≡ l.initial.text.items;
}
