-- Access control lists: a map from keys to permission sets, and the faults of a sequence of entries.
use Rattle.std.specs.Prelude.{◌≡◌, ℕ, ◌+◌, ◌*◌, ◌/◌, Bool, not, nat_lt, List, [], ◌∷◌, ◌++◌, map, length, Option, Some, None, option_map, unwrap_or, find}
use Rattle.std.specs.Prelude.{filter, IsTrue, ◌<◌, ◌≤◌, slice_index_or, if◌then◌else◌}
use Rattle.std.specs.declared.cmp.Ordering.TheVariants.{Less, Greater}
use Rattle.std.specs.List.{All, list_any, list_all, position_from}
use Rattle.std.specs.FinMap as maps
use Rattle.std.specs.FinMap.{FinMap}
use Rattle.acl_entry.specs.Perms as perms
use Rattle.acl_entry.specs.Perms.{Perms}
use Rattle.acl_entry.specs.Ids.{nobody}
use Rattle.acl_entry.specs.Keys.{key_cmp, same_key, id_of, is_named, is_class, is_base}
use Rattle.acl_entry.specs.declared.entry.Key.{Key}
use Rattle.acl_entry.specs.declared.entry.Key.TheVariants.{Owner, OwningGroup, Mask, Other}
use Rattle.acl_entry.specs.declared.entry.Entry.{Entry}
use Rattle.acl_entry.specs.declared.entry.ListFault.{ListFault}
use Rattle.acl_entry.specs.declared.entry.ListFault.TheVariants.{TooLong, Repeated, MissingBase, MissingMask}

-- ---- sequences of entries

abbrev pub pairs : List Entry → List (Key × Perms)
pairs es = map (λ e. (e.key, e.perm)) es

abbrev pub keys : List Entry → List Key
keys es = map (λ e. e.key) es

abbrev pub is_among : Key → List Key → Bool
is_among k ks = list_any (same_key k) ks

-- the first of two answers, if there is one
abbrev pub or_else : {A : Type 0} → Option A → Option A → Option A
or_else (Some x) o = Some x
or_else None o = o

-- the least place, counted on from `at`, whose key came before it: among `before`, or in the list
abbrev pub repeated_from : List Key → ℕ → List Key → Option ℕ
repeated_from before at [] = None
repeated_from before at (k ∷ ks) = if is_among k before then Some at else repeated_from (before ++ k ∷ []) (at + 1) ks

-- the least place, from 1, whose key came at an earlier place
abbrev pub repeated : List Key → Option ℕ
repeated ks = repeated_from [] 1 ks

-- the first base key that is missing
abbrev pub missing_base : List Key → Option Key
missing_base ks = find (λ k. not (is_among k ks)) (Owner ∷ OwningGroup ∷ Other ∷ [])

-- the least place, from 1, of a named key, where there is no mask
abbrev pub unmasked : List Key → Option ℕ
unmasked ks = if is_among Mask ks then None else position_from is_named 1 ks

-- the most entries that a list may have
abbrev pub most_entries : ℕ
most_entries = 4096

-- the most entries that a list keeps with no allocation
abbrev pub inline_entries : ℕ
inline_entries = 8

-- the first thing that is wrong with the keys of a list, if anything is
abbrev pub fault_of_keys : List Key → Option ListFault
fault_of_keys ks =
    if nat_lt most_entries (length ks) then Some TooLong
    else or_else (option_map Repeated (repeated ks)) (or_else (option_map MissingBase (missing_base ks)) (option_map MissingMask (unmasked ks)))

-- what is wrong with a sequence of entries
abbrev pub fault : List Entry → Option ListFault
fault es = fault_of_keys (keys es)

-- ---- lists as maps

-- what a list has at each key
abbrev pub KeyMap : Type 0
KeyMap = FinMap key_cmp Perms

-- the map of a sequence whose keys are apart
abbrev pub map_of : List Entry → KeyMap
map_of es = maps.from_entries (pairs es)

-- the entries in list order
abbrev pub entries : KeyMap → List Entry
entries m = map (λ p. record { key = p.0; perm = p.1 }) (maps.entries m)

abbrev pub IsValid : KeyMap → Type 0
IsValid m = fault (entries m) ≡ None

-- what an entry grants, or nothing where there is no entry
abbrev pub perm_at : KeyMap → Key → Perms
perm_at m k = unwrap_or (maps.get m k) perms.none

-- a permission set under a mask, if there is one
abbrev pub masked_by : Option Perms → Perms → Perms
masked_by None s = s
masked_by (Some mask) s = perms.meet s mask

-- a set of the group class, under the list's mask
abbrev pub masked : KeyMap → Perms → Perms
masked m s = masked_by (maps.get m Mask) s

-- the effective permissions of an entry
abbrev pub effective : KeyMap → Key → Option Perms
effective m k = option_map (λ s. if is_class k then masked m s else s) (maps.get m k)

abbrev pub union_all : List Perms → Perms
union_all [] = perms.none
union_all (s ∷ ss) = perms.union s (union_all ss)

abbrev pub in_class : Entry → Bool
in_class e = is_class e.key

abbrev pub perm_of_entry : Entry → Perms
perm_of_entry e = e.perm

-- all that the entries of the group class have
abbrev pub class_union : KeyMap → Perms
class_union m = union_all (map perm_of_entry (filter in_class (entries m)))

-- whether there are only base entries
abbrev pub is_minimal : KeyMap → Bool
is_minimal m = list_all (λ e. is_base e.key) (entries m)

-- the key whose entry has the mode's group digit
abbrev pub group_digit_key : KeyMap → Key
group_digit_key m = if maps.contains_key m Mask then Mask else OwningGroup

abbrev pub mode : KeyMap → ℕ
mode m =
    64 * perms.number (perm_at m Owner) + 8 * perms.number (perm_at m (group_digit_key m)) + perms.number (perm_at m Other)

-- the mode entries replaced, and all others as they were
abbrev pub with_mode : KeyMap → Perms → Perms → Perms → KeyMap
with_mode m owner group other = maps.insert (maps.insert (maps.insert m Owner owner) (group_digit_key m) group) Other other

-- the mode entries become the digits of n
abbrev pub chmod : KeyMap → ℕ → KeyMap
chmod m n = with_mode m (perms.numbered (n / 64)) (perms.numbered (n / 8)) (perms.numbered n)

-- of the mode entries what the digits of n have too is left
abbrev pub restrict : KeyMap → ℕ → KeyMap
restrict m n =
    with_mode m (perms.meet (perm_at m Owner) (perms.numbered (n / 64))) (perms.meet (perm_at m (group_digit_key m)) (perms.numbered (n / 8))) (perms.meet (perm_at m Other) (perms.numbered n))

-- the base entries alone
abbrev pub minimal_entries : ℕ → List Entry
minimal_entries n =
    record { key = Owner; perm = perms.numbered (n / 64) } ∷ record { key = OwningGroup; perm = perms.numbered (n / 8) } ∷ record { key = Other; perm = perms.numbered n } ∷ []

abbrev pub minimal : ℕ → KeyMap
minimal n = map_of (minimal_entries n)

-- ---- lists as they are kept

-- the keys rise
abbrev pub IsInOrder : List Entry → Type 0
IsInOrder es = IsTrue (maps.is_sorted key_cmp (pairs es))

-- the entry at place i has the key
pub record IsAt (es : List Entry) (k : Key) (i : ℕ) : Type 0 where
  pub in_range : i < length es
  pub has_key : (d : Entry) → (slice_index_or es i d).key ≡ k

-- the key would go at place i: lower keys before it, and higher keys from it on
pub record IsGapFor (es : List Entry) (k : Key) (i : ℕ) : Type 0 where
  pub in_range : i ≤ length es
  pub lower_before : (j : ℕ) (d : Entry) → j < i → key_cmp k (slice_index_or es j d).key ≡ Greater
  pub higher_after : (j : ℕ) (d : Entry) → i ≤ j → j < length es → key_cmp k (slice_index_or es j d).key ≡ Less

-- each named id is one
abbrev pub HasIds : List Entry → Type 0
HasIds es = All (λ e. id_of e.key < nobody) es

-- entries that are a map
pub record IsMap (es : List Entry) : Type 0 where
  pub in_order : IsInOrder es
  pub ids : HasIds es

-- entries that are a list
pub record IsList (es : List Entry) : Type 0 where
  pub in_order : IsInOrder es
  pub ids : HasIds es
  pub no_fault : fault es ≡ None
