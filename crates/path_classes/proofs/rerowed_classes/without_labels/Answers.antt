use Rattle.std.proofs.Common.{◌&&◌, List, ℕ, not, take_all, ap, ◌∙◌, arith}
use Rattle.path_classes.specs.PathClasses.{kind_at}
use Rattle.path_classes.specs.Renewing.{is_one}
use Rattle.path_classes.proofs.SomeNumbers.{left_more}
use Rattle.path_classes.proofs.rerowed_classes.without_labels.Goals as goal

pub loop-number-preserved : goal.loop-number-preserved
loop-number-preserved c n =
    left_more (λ m. is_one (kind_at c.args.classes.now m) c.args.labels.now) c.args.numbers.now c.loop-number.number-index 0 n c.loop-number.left.items c.push_unless.new.left.items
    c.loop-number-test.true (c.loop-number.invariant n) c.in_ok-push_unless.ensures

pub returns-clause-exact : goal.returns-clause-exact
returns-clause-exact c n =
    c.rising_numbers.ensures.same n
    ∙ c.loop-number.invariant n
    ∙ ap (λ (l : List ℕ). is_one n l && not (is_one (kind_at c.args.classes.now n) c.args.labels.now))
    (take_all c.loop-number.number-index c.args.numbers.now (omega (arith, c.loop-number-test.false)))
