use Rattle.std.proofs.Common.{◌≡◌, ℕ, ◌+◌, ◌-◌, ◌≤◌, ◌<◌, length, get_or, Less}
use Rattle.acl_names.specs.Paths.{path_cmp}
use Rattle.acl_text.proofs.apart.rise.Given as goal

abbrev pub invariant-loop-place : goal.invariant-loop-place
invariant-loop-place l = record {
  opened_draft : 1 ≤ l.place;
  rising : (k : ℕ) (d : _) → k + 1 < l.place → k + 1 < length l.all → path_cmp (get_or l.all k d).now (get_or l.all (k + 1) d).now ≡ Less;
}

abbrev pub decreases-loop-place : goal.decreases-loop-place
decreases-loop-place l = length l.all - l.place
