-- usermod(8): a group becomes a user's primary group.
use Rattle.std.specs.Prelude.{◌≡◌, ℕ, List, Result, Ok}
use Rattle.acl_text.specs.Results.{◌>>=◌}
use Rattle.acl_people.specs.KnownPeople.{KnownPeople}
use Rattle.acl_people.specs.Changes.{with_primary_group}
use Rattle.acl_tree.specs.declared.fault.TreeFault.{TreeFault}
use Rattle.acl_tree.specs.declared.fault.TreeFault.TheVariants.{NoSuchUser, NoSuchGroup}
use Rattle.acl_tree.specs.Causes.{MeansNoGroup, MeansNoUser}
use Rattle.acl_tree.specs.Memberships.{ChangedUser, group_at, user_at}

-- usermod -g
abbrev pub usermod : List ℕ → List ℕ → KnownPeople → Result ChangedUser TreeFault
usermod user group known = do
  u ← user_at known user
  g ← group_at known group
  Ok (record { user = u; people = with_primary_group u g known })

-- which faults apply, whatever other ones do
abbrev pub Applies : List ℕ → List ℕ → KnownPeople → TreeFault → Type 0
Applies user group known (NoSuchUser word) = (word ≡ user) × MeansNoUser known user
Applies user group known (NoSuchGroup word) = (word ≡ group) × MeansNoGroup known group
Applies user group known fault = ⊥
