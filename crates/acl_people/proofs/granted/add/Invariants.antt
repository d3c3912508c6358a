use Rattle.std.proofs.Common.{◌≡◌, ℕ, take, get_or, if◌then◌else◌}
use Rattle.std.specs.Int.RustNames.{bit_or}
use Rattle.acl_entry.specs.Mentions.{is_one_of}
use Rattle.acl_people.proofs.granted.add.Given as goal

abbrev pub invariant-loop-place : goal.invariant-loop-place
invariant-loop-place l = (at : ℕ) → get_or l.row at 0 ≡ (if is_one_of at (take l.place-index l.places) then bit_or (get_or l.fn.row at 0) l.requests else get_or l.fn.row at 0)
