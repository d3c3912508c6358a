use Rattle.std.proofs.Common.{◌≡◌, ◌++◌, ap, ◌∙◌}
use Rattle.facl_counts.specs.Sums.{folder_sum, sum_of}
use Rattle.facl_counts.proofs.BelowLines.{sums_more, sums_over}
use Rattle.facl_counts.proofs.folders.push_all_users.Goals as goal
use Rattle.facl_counts.proofs.folders.push_all_users.Goals.{in-Some+in_ok-push_folder_sum, in_default}

pub loop-at-preserved : goal.loop-at-preserved
loop-at-preserved c =
    let line = folder_sum c.args.folder.now in
    let names = c.args.names.now in
    let sums = c.args.sums.now in
    let at = c.loop-at.at in
    let text = c.loop-at.text.items in
    let new = c.match-get.text.items in
    elim c.match-get.branch [
      | in-Some+in_ok-push_folder_sum w ↦
          let name = w.index-names-at.result in
          let s = sum_of w.in-Some.sum in
          let wrote : new ≡ text ++ line name.items s =
          ap (λ v. v.items) w.text-is ∙ w.in_ok-push_folder_sum.ensures ∙ ap (λ n. text ++ line n s) w.deref.ensures.value
          in
          sums_more line (λ n. n.items) names sums at text new _ name name s c.loop-at-test.true w.index-names-at.is w.in-Some.ensures wrote c.loop-at.invariant
      | in_default w ↦ sums_over line (λ n. n.items) names sums at text new _ w.in_default.ensures (ap (λ v. v.items) w.text-is) c.loop-at.invariant
    ]
