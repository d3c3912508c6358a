use Rattle.std.proofs.Common.{◌≡◌, ◌||◌, ◌&&◌, ℕ, not, take}
use Rattle.std.specs.FinSet as sets
use Rattle.acl_entry.specs.Mentions.{is_one_of}
use Rattle.acl_entry.proofs.subject_groups.add_others.Given as goal

abbrev pub invariant-loop-group : goal.invariant-loop-group
invariant-loop-group l = (gid : ℕ) → is_one_of gid l.groups.items ≡ (is_one_of gid l.fn.groups.items || (is_one_of gid (take l.group-index l.group-items) && not (sets.contains l.but.groups gid)))
