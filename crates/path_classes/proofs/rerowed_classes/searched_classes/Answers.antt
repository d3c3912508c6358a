use Rattle.std.proofs.Common.{◌≡◌, ◌+◌, ◌++◌, ℕ, List, [], ◌∷◌, sym, ap, subst, ◌∙◌}
use Rattle.path_classes.specs.PathClasses.{ClassKinds}
use Rattle.path_classes.proofs.SomeNumbers.{AllBefore, Used, before_skipped, before_pushed, used_pushed}
use Rattle.path_classes.proofs.rerowed_classes.searched_classes.Goals.{then-keeps_search+in_ok-push, else-keeps_search}
use Rattle.path_classes.proofs.rerowed_classes.searched_classes.Goals as goal

pub loop-number-preserved : goal.loop-number-preserved
loop-number-preserved c =
    let k : ClassKinds = c.args.classes.now.0 in
    let end : ℕ = c.loop-number.number in
    let numbers : List ℕ = c.loop-number.numbers.items in
    elim c.if-keeps_search.branch [
      | then-keeps_search+in_ok-push w ↦
          let pushed : numbers ++ end ∷ [] ≡ c.if-keeps_search.numbers.items = sym (ap (λ v. v.items) w.numbers-is ∙ w.in_ok-push.ensures.items) in
          record {
            all = subst (AllBefore k (end + 1)) pushed (before_pushed k end numbers c.loop-number.invariant.all);
            used = subst (Used k) pushed (used_pushed k end numbers (sym c.keeps_search.ensures ∙ w.if-keeps_search.true) c.loop-number.invariant.used);
          }
      | else-keeps_search w ↦
          let same : numbers ≡ c.if-keeps_search.numbers.items = sym (ap (λ v. v.items) w.numbers-is) in
          record {
            all = subst (AllBefore k (end + 1)) same (before_skipped k end numbers (sym c.keeps_search.ensures ∙ w.if-keeps_search.false) c.loop-number.invariant.all);
            used = subst (Used k) same c.loop-number.invariant.used;
          }
    ]
