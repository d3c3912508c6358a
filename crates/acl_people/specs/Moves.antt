-- How the users of two states differ, as the check of access sees them.
use Rattle.std.specs.Prelude.{◌≡◌, ◌<◌, ℕ, List, [], ◌∷◌, ◌++◌, length, map, filter, slice_get, slice_set, Some}
use Rattle.std.specs.List.{remove}
use Rattle.std.specs.Option.{option_map_or}
use Rattle.std.specs.Ordering.{nat_cmp}
use Rattle.std.specs.FinMap.{keys, from_entries}
use Rattle.acl_entry.specs.Mentions.{is_one_of}
use Rattle.acl_entry.specs.Person.{Person}
use Rattle.acl_entry.specs.GroupsOfOne.{AreMoved, in_just_one}
use Rattle.acl_people.specs.KnownPeople.{KnownPeople, gids_of, persons}

-- one user may have other groups; the user's id and all other users are as they were
pub record ChangesUser (old new : List Person) (user : ℕ) : Type 0 where
  pub before : Person
  pub after : Person
  pub was : slice_get old user ≡ Some before
  pub becomes : new ≡ slice_set old user after
  pub uid : after.uid ≡ before.uid

-- a user's groups are other ones: these ids joined or left
pub record MovesUser (old new : List Person) (user : ℕ) (ids : List ℕ) : Type 0 where
  pub change : ChangesUser old new user
  pub moved : AreMoved change.before change.after ids

-- a user came, the last in order
pub record JoinsUser (old new : List Person) : Type 0 where
  pub next : Person
  pub becomes : new ≡ old ++ next ∷ []

-- a user went
pub record LeavesUser (old new : List Person) (user : ℕ) : Type 0 where
  pub was : user < length old
  pub becomes : new ≡ remove old user

-- numbers in rising order, each once
abbrev pub rising : List ℕ → List ℕ
rising ids = keys (from_entries {R = nat_cmp} (map (λ id. (id, tt {0})) ids))

-- the ids that just one of two lists has, rising
abbrev pub ids_of_one : List ℕ → List ℕ → List ℕ
ids_of_one ids others = rising (filter (λ id. in_just_one (is_one_of id ids) (is_one_of id others)) (ids ++ others))

-- the groups of the user at a place
abbrev pub user_gids : KnownPeople → ℕ → List ℕ
user_gids known user = option_map_or (gids_of known.groups) (slice_get known.users user) []

-- the groups that the user at a place joined or left
abbrev pub moved_groups : KnownPeople → KnownPeople → ℕ → List ℕ
moved_groups old new user = ids_of_one (user_gids old user) (user_gids new user)

-- one user may have other groups, and no other user changed
abbrev pub ChangesOne : ℕ → KnownPeople → KnownPeople → Type 0
ChangesOne user old new = ChangesUser (persons old) (persons new) user

-- a user came, the last in order, and no other changed
abbrev pub GainsOne : KnownPeople → KnownPeople → Type 0
GainsOne old new = JoinsUser (persons old) (persons new)

-- a user went, and no other changed
abbrev pub LosesOne : ℕ → KnownPeople → KnownPeople → Type 0
LosesOne user old new = LeavesUser (persons old) (persons new) user

-- the groups that a user joined or left, rising; without any, all users are as they were
pub record AreMovedGroups (old new : KnownPeople) (user : ℕ) (gids : List ℕ) : Type 0 where
  pub moved : MovesUser (persons old) (persons new) user gids
  pub ids : gids ≡ moved_groups old new user
  pub none : gids ≡ [] → persons new ≡ persons old
