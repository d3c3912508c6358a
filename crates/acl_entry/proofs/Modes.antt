-- The mode of a list whose mode entries were set.
use Rattle.std.proofs.Common.{◌≡◌, ℕ, ◌+◌, ◌*◌, ◌/◌, ◌%◌, Bool, true, false, if◌then◌else◌, Some, is_some, unwrap_or, eqb, refl, ap, ◌∙◌, arith}
use Rattle.std.specs.FinMap as maps
use Rattle.std.specs.List.{list_all}
use Rattle.acl_entry.specs.declared.entry.Key.{Key}
use Rattle.acl_entry.specs.declared.entry.Key.TheVariants.{Owner, OwningGroup, Mask, Other}
use Rattle.acl_entry.specs.declared.entry.Entry.{Entry}
use Rattle.acl_entry.specs.Perms.{Perms, number, numbered, number-numbered, none}
use Rattle.acl_entry.specs.Keys.{is_base}
use Rattle.acl_entry.specs.Lists.{KeyMap, map_of, perm_at, mode, with_mode, chmod, minimal, minimal_entries, is_minimal}
use Rattle.acl_entry.proofs.KeyLaws.{key_total}
use Rattle.acl_entry.proofs.PermLaws.{same_perms}
use Rattle.acl_entry.proofs.Maps.{get-map_of, entries-map_of}

pub last_digit : (n : ℕ) → numbered n ≡ numbered (n % 8)
last_digit n = same_perms _ _ (ap (λ b. eqb b 1) (omega arith)) (ap (λ b. eqb b 1) (omega arith)) (ap (λ b. eqb b 1) (omega arith))

-- a set that is read from a number has its last digit in base 8
pub number-numbered_last : (n : ℕ) → number (numbered n) ≡ n % 8
number-numbered_last n = ap number (last_digit n) ∙ number-numbered (n % 8) (omega arith)

module _ (m : KeyMap) (a g o : Perms) where
  first : KeyMap
  first = maps.insert m Owner a

  group_key : Bool → Key
  group_key b = if b then Mask else OwningGroup

  whole : Bool → KeyMap
  whole b = maps.insert (maps.insert (maps.insert m Owner a) (if b then Mask else OwningGroup) g) Other o

  at_owner : (b : Bool) → maps.get (whole b) Owner ≡ Some a
  unfolding whole
  at_owner true = maps.get-insert key_total _ Other o Owner ∙ maps.get-insert key_total _ Mask g Owner ∙ maps.get-insert key_total m Owner a Owner
  at_owner false = maps.get-insert key_total _ Other o Owner ∙ maps.get-insert key_total _ OwningGroup g Owner ∙ maps.get-insert key_total m Owner a Owner

  at_group : (b : Bool) → maps.get (whole b) (if b then Mask else OwningGroup) ≡ Some g
  unfolding whole
  at_group true = maps.get-insert key_total _ Other o Mask ∙ maps.get-insert key_total _ Mask g Mask
  at_group false = maps.get-insert key_total _ Other o OwningGroup ∙ maps.get-insert key_total _ OwningGroup g OwningGroup

  at_other : (b : Bool) → maps.get (whole b) Other ≡ Some o
  unfolding whole
  at_other b = maps.get-insert key_total _ Other o Other

  at_mask : (b : Bool) → maps.contains_key m Mask ≡ b → maps.contains_key (whole b) Mask ≡ b
  unfolding whole
  at_mask true h = ap is_some (maps.get-insert key_total _ Other o Mask ∙ maps.get-insert key_total _ Mask g Mask)
  at_mask false h = ap is_some (maps.get-insert key_total _ Other o Mask ∙ maps.get-insert key_total _ OwningGroup g Mask ∙ maps.get-insert key_total m Owner a Mask) ∙ h

  mode_whole : (b : Bool) → maps.contains_key m Mask ≡ b → mode (whole b) ≡ 64 * number a + 8 * number g + number o
  mode_whole b h =
      ap (λ k. 64 * number (perm_at (whole b) Owner) + 8 * number (perm_at (whole b) (if k then Mask else OwningGroup)) + number (perm_at (whole b) Other)) (at_mask b h)
      ∙ ap (λ s. 64 * number (unwrap_or s none) + 8 * number (perm_at (whole b) (if b then Mask else OwningGroup)) + number (perm_at (whole b) Other)) (at_owner b)
      ∙ ap (λ s. 64 * number a + 8 * number (unwrap_or s none) + number (perm_at (whole b) Other)) (at_group b)
      ∙ ap (λ s. 64 * number a + 8 * number g + number (unwrap_or s none)) (at_other b)

  pub mode-with_mode : mode (with_mode m a g o) ≡ 64 * number a + 8 * number g + number o
  unfolding whole
  mode-with_mode = mode_whole (maps.contains_key m Mask) refl

-- what is set is what is shown
pub mode-chmod : (m : KeyMap) (n : ℕ) → mode (chmod m n) ≡ n % 512
mode-chmod m n =
    mode-with_mode m (numbered (n / 64)) (numbered (n / 8)) (numbered n)
    ∙ omega (arith, number-numbered_last (n / 64), number-numbered_last (n / 8), number-numbered_last n)

pub mode-minimal : (n : ℕ) → mode (minimal n) ≡ n % 512
mode-minimal n =
    let es = minimal_entries n in
    ap (λ o. 64 * number (perm_at (map_of es) Owner) + 8 * number (perm_at (map_of es) (if is_some o then Mask else OwningGroup)) + number (perm_at (map_of es) Other)) (get-map_of es Mask)
    ∙ ap (λ s. 64 * number (unwrap_or s none) + 8 * number (perm_at (map_of es) OwningGroup) + number (perm_at (map_of es) Other)) (get-map_of es Owner)
    ∙ ap (λ s. 64 * number (numbered (n / 64)) + 8 * number (unwrap_or s none) + number (perm_at (map_of es) Other)) (get-map_of es OwningGroup)
    ∙ ap (λ s. 64 * number (numbered (n / 64)) + 8 * number (numbered (n / 8)) + number (unwrap_or s none)) (get-map_of es Other)
    ∙ omega (arith, number-numbered_last (n / 64), number-numbered_last (n / 8), number-numbered_last n)

pub is_minimal-minimal : (n : ℕ) → is_minimal (minimal n) ≡ true
is_minimal-minimal n = ap (list_all (λ (e : Entry). is_base e.key)) (entries-map_of (minimal_entries n) refl)
