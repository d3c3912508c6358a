-- How many verdicts a line asks of the judge.
use Rattle.std.specs.Prelude.{ℕ, ◌+◌, ◌*◌, ◌^◌, length}
use Rattle.acl_tree.specs.Changed.{changed_between}
use Rattle.acl_tree.specs.State.{State}
use Rattle.acl_tree.specs.declared.user_change.UserChange.{UserChange}
use Rattle.acl_rights.specs.Stages.{moves_asked}

-- every user on every file
abbrev pub all_pairs : State → ℕ
all_pairs s = length s.tree.files * length s.people.users

-- the most verdicts that a line costs, by the states before and after it and by how it moves the users: all users on
-- each file that it changed, and those that the move can have changed
abbrev pub most_between : State → State → UserChange → ℕ
most_between old new move = length (changed_between old.tree.files new.tree.files) * length new.people.users + moves_asked move new.tree.files

-- 65,536 users on 1,048,576 files
abbrev pub most_pairs : ℕ
most_pairs = 2 ^ 36
