use Rattle.std.proofs.Common.{◌≡◌, ◌++◌, ap, ◌∙◌}
use Rattle.facl_counts.specs.Sums.{sum_line, sum_of}
use Rattle.facl_counts.proofs.BelowLines.{sums_more, sums_over}
use Rattle.facl_counts.proofs.below.push_sums.Goals as goal
use Rattle.facl_counts.proofs.below.push_sums.Goals.{in-Some+in_ok-push_sum, in_default}

pub loop-at-preserved : goal.loop-at-preserved
loop-at-preserved c =
    let t = c.args.tree.now.files in
    let names = c.args.names.now in
    let sums = c.args.sums.now in
    let at = c.loop-at.at in
    let text = c.loop-at.text.items in
    let new = c.match-get.text.items in
    elim c.match-get.branch [
      | in-Some+in_ok-push_sum w ↦
          let name = w.index-names-at.result in
          let s = sum_of w.in-Some.sum in
          let wrote : new ≡ text ++ sum_line t name.items s =
          ap (λ v. v.items) w.text-is ∙ w.in_ok-push_sum.ensures ∙ ap (λ n. text ++ sum_line t n s) w.deref.ensures.value
          in
          sums_more (sum_line t) (λ n. n.items) names sums at text new _ name name s c.loop-at-test.true w.index-names-at.is w.in-Some.ensures wrote c.loop-at.invariant
      | in_default w ↦ sums_over (sum_line t) (λ n. n.items) names sums at text new _ w.in_default.ensures (ap (λ v. v.items) w.text-is) c.loop-at.invariant
    ]
