-- Which entry of a list decides on a user; and the two judges, acl(5)'s check and what Linux grants.
use Rattle.std.specs.Prelude.{◌==◌, if◌then◌else◌, Option, Some, None, is_some}
use Rattle.std.specs.List.{list_any}
use Rattle.std.specs.FinMap as maps
use Rattle.std.specs.FinSet as sets
use Rattle.acl_entry.specs.Check.{is_for, rights}
use Rattle.acl_entry.specs.Linux.{has_empty_mask, linux_rights}
use Rattle.acl_entry.specs.Lists.{entries}
use Rattle.acl_entry.specs.Person.{Person}
use Rattle.acl_entry.specs.declared.entry.Key.{Key}
use Rattle.acl_entry.specs.declared.entry.Key.TheVariants.{Owner, User, OwningGroup, Other}
use Rattle.acl_entry.specs.declared.label.Label.{Label}
use Rattle.acl_rights.specs.Rows.{Verdict}

-- the key of the entry that alone decides on a user and a label; none where the entries of the user's groups do
abbrev pub Decider : Type 0
Decider = Person → Label → Option Key

-- what a judge grants, and by which entries
pub record Judging : Type 0 where
  pub verdict : Verdict
  pub decider : Decider

abbrev pub judging : Verdict → Decider → Judging
judging V D = record { verdict = V; decider = D }

-- the first case of acl(5)'s check that applies: the owner's entry, the user's named one, those of the user's groups, the others'
abbrev pub sole_key : Decider
sole_key u f =
    if u.uid == f.owner then Some Owner
    else if is_some (maps.get f.acl (User u.uid)) then Some (User u.uid)
    else if list_any (is_for u f.group) (entries f.acl) then None
    else Some Other

-- the case of a mode that applies
abbrev pub mode_key : Decider
mode_key u f =
    if u.uid == f.owner then Some Owner
    else if sets.contains u.groups f.group then Some OwningGroup
    else Some Other

-- the case that applies where Linux looks at the list, or at the mode alone
abbrev pub linux_sole_key : Decider
linux_sole_key u f = if has_empty_mask f.acl then mode_key u f else sole_key u f

-- the access check of acl(5)
abbrev pub posix : Judging
posix = judging rights sole_key

-- what Linux grants
abbrev pub linux : Judging
linux = judging linux_rights linux_sole_key
