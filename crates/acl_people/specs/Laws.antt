-- What changes of users and groups leave as it is.
use Rattle.std.specs.Prelude.{◌≡◌, ◌<◌, ℕ, List, length, slice_get, Bool, true, false}
use Rattle.std.specs.List.{list_any, remove}
use Rattle.std.specs.Option.{option_map_or}
use Rattle.std.specs.FinSet.{contains}
use Rattle.acl_people.specs.KnownPeople.{KnownPeople, IsSound, names_user, person, persons}
use Rattle.acl_people.specs.Changes.{gid_of, is_member, with_member, without_member, with_user, without_user}

-- a member that is added and removed again, whom the group's row did not name: all is as it was
abbrev pub AddedMemberIsRemoved : Type 0
AddedMemberIsRemoved = (user group : ℕ) (known : KnownPeople) → is_member user group known ≡ false → without_member user group (with_member user group known) ≡ known

-- a user that is added and removed again, whom no group's row names: all rows are as they were
abbrev pub AddedUserIsRemoved : Type 0
AddedUserIsRemoved =
    (name : List ℕ) (uid group : ℕ) (known : KnownPeople) → list_any (names_user name) known.groups ≡ false
    → (let after = without_user (length known.users) (with_user name uid group known) in (after.users ≡ known.users) × (after.groups ≡ known.groups))

-- the user has the group's id by the primary group or by another row
abbrev pub has_otherwise : ℕ → ℕ → KnownPeople → Bool
has_otherwise user group known =
    option_map_or (λ row. contains (person (remove known.groups group) row).groups (gid_of group known)) (slice_get known.users user) false

-- then neither a membership of the group's row nor the end of it changes any user's groups
abbrev pub GroupHeldOtherwiseStays : Type 0
GroupHeldOtherwiseStays =
    (user group : ℕ) (known : KnownPeople) → IsSound known → user < length known.users → has_otherwise user group known ≡ true
    → (persons (with_member user group known) ≡ persons known) × (persons (without_member user group known) ≡ persons known)
