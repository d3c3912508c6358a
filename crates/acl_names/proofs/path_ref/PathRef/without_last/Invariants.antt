use Rattle.std.proofs.Common.{◌≡◌, ◌-◌, ◌≤◌, length, take}
use Rattle.acl_names.proofs.path_ref.PathRef.without_last.Given as goal

abbrev pub invariant-loop-name : goal.invariant-loop-name
invariant-loop-name l = record {
  fewer : length l.rest ≤ length l.fn.last;
  top : l.top ≡ take (length l.self - (length l.fn.last - length l.rest)) l.self;
}
