use Rattle.std.proofs.Common.{◌≡◌, ◌+◌, length}
use Rattle.path_map.specs.Entries.{IsInOrder}
use Rattle.path_map.specs.Inner.{IsEndOf}
use Rattle.acl_tree.specs.Inner.{Ascend}
use Rattle.acl_tree.specs.Operands.{files_meant}
use Rattle.acl_tree.proofs.walk.Walk.next.Given as goal

abbrev pub invariant-loop-path : goal.invariant-loop-path
invariant-loop-path l = record {
  order : IsInOrder l.self-inside.numbers.now;
  end : IsEndOf l.self-inside.rest l.self-inside.numbers.now;
  ascend : Ascend l.self-inside.operands.now;
  meant : files_meant l.self-inside.recursive l.self-inside.operands.now l.self-inside.rest ≡ l.fn.self.0;
  left : IsEndOf l.self-inside.rest l.fn.self.1;
}

abbrev pub decreases-loop-path : goal.decreases-loop-path
decreases-loop-path l = length l.self-inside.rest + length l.self-inside.operands.now
