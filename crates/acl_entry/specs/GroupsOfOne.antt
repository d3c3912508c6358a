-- The groups that just one of two users has.
use Rattle.std.specs.Prelude.{◌≡◌, ◌||◌, ◌&&◌, ℕ, List, Bool, not, if◌then◌else◌}
use Rattle.std.specs.FinSet.{contains}
use Rattle.std.specs.List.Sorted.{IsStrictlyIncreasing}
use Rattle.acl_entry.specs.Mentions.{is_one_of}
use Rattle.acl_entry.specs.Person.{Person}

abbrev pub in_just_one : Bool → Bool → Bool
in_just_one a b = if a then not b else b

-- ids of groups, rising, each once: exactly those that one of the two has and the other has not
pub record AreMoved (before after : Person) (ids : List ℕ) : Type 0 where
  pub rising : IsStrictlyIncreasing ids
  pub just : (gid : ℕ) → is_one_of gid ids ≡ in_just_one (contains before.groups gid) (contains after.groups gid)

-- the groups of one user that another is not of are added
abbrev pub AddsOthers : List ℕ → List ℕ → Person → Person → Type 0
AddsOthers old new of but = (gid : ℕ) → is_one_of gid new ≡ (is_one_of gid old || (contains of.groups gid && not (contains but.groups gid)))
