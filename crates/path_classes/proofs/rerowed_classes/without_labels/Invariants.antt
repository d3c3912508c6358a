use Rattle.std.proofs.Common.{◌≡◌, ◌&&◌, ℕ, not, take}
use Rattle.path_classes.specs.PathClasses.{kind_at}
use Rattle.path_classes.specs.Renewing.{is_one}
use Rattle.path_classes.proofs.rerowed_classes.without_labels.Given as goal

abbrev pub invariant-loop-number : goal.invariant-loop-number
invariant-loop-number l = (n : ℕ) → is_one n l.left.items ≡ (is_one n (take l.number-index l.numbers) && not (is_one (kind_at l.classes n) l.labels))
