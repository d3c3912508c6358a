use Rattle.std.proofs.Common.{◌≡◌, ◌++◌, map, take}
use Rattle.facl_script.proofs.reading.push_operand.Given as goal

abbrev pub invariant-loop-text : goal.invariant-loop-text
invariant-loop-text l = l.items.items ≡ l.initial.items.items ++ map (λ t. t.now) (take l.text-index l.texts)
