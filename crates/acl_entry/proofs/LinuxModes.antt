-- Where a list's mask grants nothing, what its mode grants is what acl(5)'s check grants on the list of that mode.
use Rattle.std.proofs.Common.{◌≡◌, ℕ, ◌+◌, ◌*◌, ◌/◌, ◌%◌, ◌<◌, ◌==◌, ◌||◌, ◌&&◌, Bool, true, false, if◌then◌else◌, List, Option, Some, None, is_some, unwrap_or, refl, sym, ap, ◌∙◌, arith}
use Rattle.std.proofs.lemmas.Bool.{eqb-true}
use Rattle.std.specs.FinMap as maps
use Rattle.std.specs.FinSet as sets
use Rattle.std.specs.List.{list_any}
use Rattle.std.specs.Option.{option_map_or}
use Rattle.acl_entry.specs.declared.entry.Entry.{Entry}
use Rattle.acl_entry.specs.declared.entry.Key.TheVariants.{Owner, User, OwningGroup, Mask, Other}
use Rattle.acl_entry.specs.declared.label.Label.{Label}
use Rattle.acl_entry.specs.Check.{byte_of, check, is_for, rights, some_entry_grants}
use Rattle.acl_entry.specs.Linux.{check_mode, has_empty_mask, linux_rights, with_mode_alone, LinuxChecksListOrMode}
use Rattle.acl_entry.specs.Lists.{KeyMap, entries, group_digit_key, masked_by, minimal_entries, mode, perm_at}
use Rattle.acl_entry.specs.Perms.{Perms, contains, none, number, numbered}
use Rattle.acl_entry.specs.Person.{Person}
use Rattle.acl_entry.proofs.Maps.{entries-map_of, get-map_of}
use Rattle.acl_entry.proofs.Modes.{last_digit}
use Rattle.acl_entry.proofs.Same.{numbered_bools}

number-lt : (s : Perms) → number s < 8
number-lt s = by s.read s.write s.execute
  where
    by : (r w x : Bool) → number (record { read = r; write = w; execute = x }) < 8
    by true true true = omega arith
    by true true false = omega arith
    by true false true = omega arith
    by true false false = omega arith
    by false true true = omega arith
    by false true false = omega arith
    by false false true = omega arith
    by false false false = omega arith

-- a set that a number has as its last digit in base 8
digit_is : (n : ℕ) (s : Perms) → n % 8 ≡ number s → numbered n ≡ s
digit_is n s h = last_digit n ∙ ap numbered h ∙ numbered_bools s.read s.write s.execute

abbrev group_digit : KeyMap → Perms
group_digit m = perm_at m (group_digit_key m)

mode_owner : (m : KeyMap) → numbered (mode m / 64) ≡ perm_at m Owner
mode_owner m =
    digit_is (mode m / 64) (perm_at m Owner) (omega (arith, number-lt (perm_at m Owner), number-lt (group_digit m), number-lt (perm_at m Other)))

mode_group : (m : KeyMap) → numbered (mode m / 8) ≡ group_digit m
mode_group m =
    digit_is (mode m / 8) (group_digit m) (omega (arith, number-lt (perm_at m Owner), number-lt (group_digit m), number-lt (perm_at m Other)))

mode_other : (m : KeyMap) → numbered (mode m) ≡ perm_at m Other
mode_other m = digit_is (mode m) (perm_at m Other) (omega (arith, number-lt (perm_at m Other)))

-- the digit of an empty mask
empty_digit : (m : KeyMap) (mask : Option Perms) → maps.get m Mask ≡ mask → option_map_or (λ s. number s == 0) mask false ≡ true → numbered (mode m / 8) ≡ none
empty_digit m None is h = cc
empty_digit m (Some s) is h =
    mode_group m ∙ ap (λ o. unwrap_or (maps.get m (if is_some o then Mask else OwningGroup)) none) is
    ∙ ap (λ o. unwrap_or o none) is ∙ sym (numbered_bools s.read s.write s.execute) ∙ ap numbered (eqb-true (number s) 0 h)

-- of the three entries of a mode one is for a group
one_group : (is_member group other : Bool) → (if is_member || false then (is_member && group) || false else other) ≡ (if is_member then group else other)
one_group true true other = refl
one_group true false other = refl
one_group false group other = refl

module _ (u : Person) (f : Label) (q : Perms) where
  -- the check by what it looks up
  checked : (owner user mask : Option Perms) → List Entry → (other : Option Perms) → Bool
  checked owner user mask es other =
      if u.uid == f.owner then contains (unwrap_or owner none) q
      else option_map_or (λ s. contains (masked_by mask s) q) user
      (if list_any (is_for u f.group) es then some_entry_grants u f.group mask es q else contains (unwrap_or other none) q)

  of_mode : check u (with_mode_alone f) q
      ≡ (if u.uid == f.owner then contains (numbered (mode f.acl / 64)) q
      else (if sets.contains u.groups f.group then contains (numbered (mode f.acl / 8)) q else contains (numbered (mode f.acl)) q))
  unfolding checked
  of_mode =
      let n = mode f.acl in
      let es = minimal_entries n in
      (λ i. checked (get-map_of es Owner i) (get-map_of es (User u.uid) i) (get-map_of es Mask i) (entries-map_of es refl i) (get-map_of es Other i))
      ∙ (λ i. if u.uid == f.owner then contains (numbered (n / 64)) q
      else one_group (sets.contains u.groups f.group) (contains (numbered (n / 8)) q) (contains (numbered n) q) i)

  same : has_empty_mask f.acl ≡ true → check u (with_mode_alone f) q ≡ check_mode u f q
  same empty =
      of_mode
      ∙ (λ i. if u.uid == f.owner then contains (mode_owner f.acl i) q
      else (if sets.contains u.groups f.group then contains (empty_digit f.acl (maps.get f.acl Mask) refl empty i) q
      else contains (mode_other f.acl i) q))

pub list_or_mode : LinuxChecksListOrMode
list_or_mode u f = by (has_empty_mask f.acl) refl
  where
    by : (empty : Bool) → has_empty_mask f.acl ≡ empty
        → byte_of (λ q. if empty then check_mode u f q else check u f q) ≡ rights u (if empty then with_mode_alone f else f)
    by true is = λ i. byte_of (λ q. sym (same u f q is) i)
    by false is = refl
