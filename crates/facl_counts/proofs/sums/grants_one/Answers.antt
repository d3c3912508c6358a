use Rattle.std.proofs.Common.{◌||◌, ap, sym, ◌∙◌, arith}
use Rattle.acl_names.proofs.Basics.{or_false}
use Rattle.facl_counts.proofs.SumsApart.{none_past}
use Rattle.facl_counts.proofs.sums.grants_one.Goals as goal

pub returns : goal.returns
returns c =
    let none = none_past c.args.request c.loop-at.at c.args.row.now c.args.waits.now (λ a b. omega (arith, a, b, c.min-users.ensures, c.loop-at-test.false)) in
    sym (or_false c.loop-at.found) ∙ ap (λ b. c.loop-at.found || b) (sym none) ∙ c.loop-at.invariant
