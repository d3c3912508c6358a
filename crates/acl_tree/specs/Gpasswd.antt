-- gpasswd(1): a user joins a group, or leaves it.
use Rattle.std.specs.Prelude.{◌≡◌, ℕ, List, false, Some, if◌then◌else◌, Result, Ok, Err}
use Rattle.acl_text.specs.Results.{◌>>=◌}
use Rattle.acl_people.specs.NameTables.{place_of_word}
use Rattle.acl_people.specs.KnownPeople.{KnownPeople, users_of, groups_of}
use Rattle.acl_people.specs.Changes.{is_member, with_member, without_member}
use Rattle.acl_tree.specs.declared.command.Membership.{Membership}
use Rattle.acl_tree.specs.declared.command.Membership.TheVariants.{Add, Remove}
use Rattle.acl_tree.specs.declared.fault.TreeFault.{TreeFault}
use Rattle.acl_tree.specs.declared.fault.TreeFault.TheVariants.{NoSuchUser, NoSuchGroup, NotMember}
use Rattle.acl_tree.specs.Causes.{MeansNoGroup, MeansNoUser}
use Rattle.acl_tree.specs.Memberships.{ChangedUser, group_at, user_at}

-- the people with a user added to the row of a group, or removed from it
abbrev pub membership_changed : ℕ → ℕ → Membership → KnownPeople → Result KnownPeople TreeFault
membership_changed user group Add known = Ok (with_member user group known)
membership_changed user group Remove known = if is_member user group known then Ok (without_member user group known) else Err NotMember

-- gpasswd -a, -d
abbrev pub gpasswd : List ℕ → List ℕ → Membership → KnownPeople → Result ChangedUser TreeFault
gpasswd user group change known = do
  u ← user_at known user
  g ← group_at known group
  people ← membership_changed u g change known
  Ok (record { user = u; people = people })

-- ---- why it is refused

-- two words mean a user and a group whose row does not name the user
pub record MeanNoMember (known : KnownPeople) (user group : List ℕ) : Type 0 where
  pub user_place : ℕ
  pub group_place : ℕ
  pub means_user : place_of_word user (users_of known) ≡ Some user_place
  pub means_group : place_of_word group (groups_of known) ≡ Some group_place
  pub unnamed : is_member user_place group_place known ≡ false

-- which faults apply, whatever other ones do
abbrev pub Applies : List ℕ → List ℕ → Membership → KnownPeople → TreeFault → Type 0
Applies user group change known (NoSuchUser word) = (word ≡ user) × MeansNoUser known user
Applies user group change known (NoSuchGroup word) = (word ≡ group) × MeansNoGroup known group
Applies user group change known NotMember = (change ≡ Remove) × MeanNoMember known user group
Applies user group change known fault = ⊥
