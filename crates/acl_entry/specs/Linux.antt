-- What Linux grants a user on a file: fs/namei.c, acl_permission_check. It looks at a list only where the mode's group digit,
-- which a mask is, grants something; else the mode decides.
use Rattle.std.specs.Prelude.{◌≡◌, ℕ, ◌==◌, Bool, false, true, if◌then◌else◌}
use Rattle.std.specs.Option.{option_map_or}
use Rattle.std.specs.FinMap as maps
use Rattle.std.specs.FinSet as sets
use Rattle.acl_entry.specs.Perms.{Perms, contains, none, number}
use Rattle.acl_entry.specs.Lists.{KeyMap, minimal, mode, perm_at}
use Rattle.acl_entry.specs.Check.{byte_of, check, rights}
use Rattle.acl_entry.specs.Person.{Person}
use Rattle.acl_entry.specs.declared.entry.Key.TheVariants.{Owner, Mask, Other}
use Rattle.acl_entry.specs.declared.label.Label.{Label}

-- the list has a mask, which grants nothing
abbrev pub has_empty_mask : KeyMap → Bool
has_empty_mask list = option_map_or (λ mask. number mask == 0) (maps.get list Mask) false

-- whether a mode whose group digit is 0 grants one request
abbrev pub check_mode : Person → Label → Perms → Bool
check_mode u f q =
    if u.uid == f.owner then contains (perm_at f.acl Owner) q
    else if sets.contains u.groups f.group then contains none q
    else contains (perm_at f.acl Other) q

-- whether Linux grants one request
abbrev pub linux_check : Person → Label → Perms → Bool
linux_check u f q = if has_empty_mask f.acl then check_mode u f q else check u f q

-- the requests that Linux grants
abbrev pub linux_rights : Person → Label → ℕ
linux_rights u f = byte_of (linux_check u f)

-- the file without its list: with the entries of its mode alone
abbrev pub with_mode_alone : Label → Label
with_mode_alone f = record { owner = f.owner; group = f.group; acl = minimal (mode f.acl) }

-- Linux grants what acl(5)'s check grants: on the list, or where its mask grants nothing on the mode alone
abbrev pub LinuxChecksListOrMode : Type 0
LinuxChecksListOrMode = (u : Person) (f : Label) → linux_rights u f ≡ rights u (if has_empty_mask f.acl then with_mode_alone f else f)
