-- Lists as extended attributes: the number 2 in four bytes, then eight bytes for each entry, its tag, its
-- permissions and an id (linux/posix_acl_xattr.h). All numbers are little-endian.
use Rattle.std.specs.Prelude.{ℕ, ◌+◌, ◌/◌, List, ◌++◌, length, drop, Bool, ◌&&◌, ◌||◌, ◌==◌, not, nat_le, nat_lt, if◌then◌else◌, Option, Some, None, option_map, ok_or}
use Rattle.std.specs.Prelude.{option_and_then, unwrap_or, Result, Ok, Err}
use Rattle.std.specs.FinMap as maps
use Rattle.std.specs.List.{flat_map}
use Rattle.std.specs.Simd.{first_chunks}
use Rattle.acl_entry.specs.declared.entry.Entry.{Entry}
use Rattle.acl_entry.specs.declared.entry.ListFault.{ListFault}
use Rattle.acl_entry.specs.declared.entry.Key.{Key}
use Rattle.acl_entry.specs.declared.entry.Key.TheVariants.{Owner, User, OwningGroup, Group, Mask, Other}
use Rattle.acl_entry.specs.Ids.{nobody}
use Rattle.acl_entry.specs.Keys.{named_id}
use Rattle.acl_entry.specs.Lists.{KeyMap, entries, fault, most_entries}
use Rattle.acl_entry.specs.Perms.{Perms, number, numbered}
use Rattle.acl_text.specs.declared.fault.FaultKind.{FaultKind}
use Rattle.acl_text.specs.declared.fault.FaultKind.TheVariants.{BadAttr}
use Rattle.acl_text.specs.declared.fault.TextFault.{TextFault}
use Rattle.acl_text.specs.InTurn.{read_each}
use Rattle.byteorder.specs.Endian.{little_number, little_bytes}
use Rattle.acl_text.specs.declared.decode.Reading.{Reading}

-- ---- writing

-- ACL_USER_OBJ, ACL_USER, ACL_GROUP_OBJ, ACL_GROUP, ACL_MASK, ACL_OTHER
abbrev pub tag_of : Key → ℕ
tag_of Owner = 1
tag_of (User id) = 2
tag_of OwningGroup = 4
tag_of (Group id) = 8
tag_of Mask = 16
tag_of Other = 32

-- the id that is named, and the greatest number of four bytes where nobody is
abbrev pub written_id : Key → ℕ
written_id key = unwrap_or (named_id key) nobody

abbrev pub entry_bytes : Entry → List ℕ
entry_bytes e = little_bytes 2 (tag_of e.key) ++ (little_bytes 2 (number e.perm) ++ little_bytes 4 (written_id e.key))

-- the attribute of a list, its entries in list order
abbrev pub attr_bytes : KeyMap → List ℕ
attr_bytes acl = little_bytes 4 2 ++ flat_map entry_bytes (entries acl)

-- ---- reading

-- an id, but for the number that names nobody
abbrev pub id_from : ℕ → Option ℕ
id_from n = if nat_lt n nobody then Some n else None

-- an entry that names nobody may have any id
abbrev pub key_of : ℕ → ℕ → Option Key
key_of tag id =
    if tag == 1 then Some Owner
    else (if tag == 2 then option_map User (id_from id)
    else (if tag == 4 then Some OwningGroup
    else (if tag == 8 then option_map Group (id_from id)
    else (if tag == 16 then Some Mask
    else (if tag == 32 then Some Other else None)))))

-- no entry is read yet
abbrev pub start : Reading
start = record { entries = maps.empty; last_tag = 0 }

-- permissions are a number of three bits
abbrev pub perm_of : ℕ → Option Perms
perm_of n = if nat_lt 7 n then None else Some (numbered n)

-- one entry more: no key comes twice
abbrev pub with_key : Reading → ℕ → Perms → Key → Option Reading
with_key reading tag perm key =
    if maps.contains_key reading.entries key then None
    else Some (record { entries = maps.insert reading.entries key perm; last_tag = tag })

-- tags never fall
abbrev pub with_numbers : Reading → ℕ → ℕ → ℕ → Option Reading
with_numbers reading tag perm id =
    if nat_lt tag reading.last_tag then None
    else option_and_then (λ p. option_and_then (with_key reading tag p) (key_of tag id)) (perm_of perm)

-- the entry at a place, by the numbers that its bytes read as; eight bytes, and at most `most_entries` entries
abbrev pub with_entry : ℕ → Reading → List ℕ → Option Reading
with_entry at reading bytes =
    if nat_lt most_entries at || not (length bytes == 8) then None
    else with_numbers reading (little_number 2 bytes) (little_number 2 (drop 2 bytes)) (little_number 4 (drop 4 bytes))

abbrev pub one_entry : ℕ → Reading → List ℕ → Result Reading FaultKind
one_entry at reading bytes = ok_or (with_entry at reading bytes) BadAttr

-- the bytes of the entries, eight for each; the last may be cut
abbrev pub entries_in : List ℕ → List (List ℕ)
entries_in bytes = first_chunks 8 ((length bytes + 7) / 8) bytes

abbrev pub bad_attr : ℕ → TextFault
bad_attr at = record { kind = BadAttr; at = at }

abbrev pub has_head : List ℕ → Bool
has_head bytes = nat_le 4 (length bytes) && (little_number 4 bytes == 2)

-- the entries have to be a valid list: the place of what one lacks is after the last
abbrev pub list_from : ℕ → KeyMap → Option ListFault → Result KeyMap TextFault
list_from last acl None = Ok acl
list_from last acl (Some fault) = Err (bad_attr (last + 1))

abbrev pub list_of : ℕ → Result Reading TextFault → Result KeyMap TextFault
list_of last (Ok reading) = list_from last reading.entries (fault (entries reading.entries))
list_of last (Err fault) = Err fault

-- the list of these bytes after the head
abbrev pub list_in : List ℕ → Result KeyMap TextFault
list_in bytes = list_of (length (entries_in bytes)) (read_each one_entry start (entries_in bytes))

-- the list that an attribute contains, or its fault: at 0 where the head is not the number 2
abbrev pub attr_of : List ℕ → Result KeyMap TextFault
attr_of bytes = if has_head bytes then list_in (drop 4 bytes) else Err (bad_attr 0)
