use Rattle.std.proofs.Common.{◌≡◌, ◌<◌, ℕ, true, is_some, Some}
use Rattle.std.specs.List.{AllByRecursion}
use Rattle.kinds.specs.Kinds.{node_at, count_at}
use Rattle.path_classes.specs.declared.path_class.PathClass.{PathClass}
use Rattle.path_classes.specs.Renewing.{is_one}
use Rattle.path_classes.proofs.rerowed_classes.searched_classes.Given as goal

abbrev pub invariant-loop-number : goal.invariant-loop-number
invariant-loop-number l = record {
  all : (n : ℕ) (c : PathClass) → n < l.number → 0 < count_at l.classes.0 n → node_at l.classes.0 n ≡ Some c → is_some c.search ≡ true → is_one n l.numbers.items ≡ true;
  used : AllByRecursion (λ n. 0 < count_at l.classes.0 n) l.numbers.items;
}
