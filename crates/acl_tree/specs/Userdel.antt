-- userdel(8): a user goes.
use Rattle.std.specs.Prelude.{◌≡◌, ℕ, List, Result, Ok}
use Rattle.acl_text.specs.Results.{◌>>=◌}
use Rattle.acl_people.specs.KnownPeople.{KnownPeople}
use Rattle.acl_people.specs.Changes.{without_user}
use Rattle.acl_tree.specs.declared.fault.TreeFault.{TreeFault}
use Rattle.acl_tree.specs.declared.fault.TreeFault.TheVariants.{NoSuchUser}
use Rattle.acl_tree.specs.Causes.{MeansNoUser}
use Rattle.acl_tree.specs.Memberships.{ChangedUser, user_at}

abbrev pub remove_at : KnownPeople → ℕ → Result ChangedUser TreeFault
remove_at known user = Ok (record { user = user; people = without_user user known })

-- userdel
abbrev pub userdel : List ℕ → KnownPeople → Result ChangedUser TreeFault
userdel user known = user_at known user >>= remove_at known

-- which faults apply, whatever other ones do
abbrev pub Applies : List ℕ → KnownPeople → TreeFault → Type 0
Applies user known (NoSuchUser word) = (word ≡ user) × MeansNoUser known user
Applies user known fault = ⊥
