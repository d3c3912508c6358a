-- What an attribute contains, entry by entry.
use Rattle.std.specs.Prelude.{◌≡◌, ℕ, ◌+◌, ◌≤◌, ◌<◌, ◌⊎◌, List, [], ◌∷◌, ◌++◌, drop, length, true, false, Option, Some, None}
use Rattle.std.specs.List.{flat_map}
use Rattle.acl_entry.specs.declared.entry.Entry.{Entry}
use Rattle.acl_entry.specs.Ids.{nobody}
use Rattle.acl_entry.specs.Keys.{named_id}
use Rattle.acl_entry.specs.Lists.{KeyMap, IsValid, keys, repeated, map_of, most_entries}
use Rattle.acl_entry.specs.Perms.{number}
use Rattle.byteorder.specs.Endian.{little_number}
use Rattle.acl_text.specs.Attr.{tag_of, has_head, entries_in}

-- an id is named where the entry names one, and may be any number where it names nobody
abbrev pub IsIdOf : Option ℕ → ℕ → Type 0
IsIdOf None n = Unit {0}
IsIdOf (Some id) n = (n ≡ id) × (id < nobody)

-- eight bytes read as an entry's tag, its permissions and its id
pub record Encodes (bytes : List ℕ) (e : Entry) : Type 0 where
  pub eight : length bytes ≡ 8
  pub tag : little_number 2 bytes ≡ tag_of e.key
  pub perm : little_number 2 (drop 2 bytes) ≡ number e.perm
  pub id : IsIdOf (named_id e.key) (little_number 4 (drop 4 bytes))

-- each piece is the entry at its place
abbrev pub EncodeEach : List (List ℕ) → List Entry → Type 0
EncodeEach [] [] = Unit {0}
EncodeEach (piece ∷ pieces) (e ∷ es) = Encodes piece e × EncodeEach pieces es
EncodeEach [] (e ∷ es) = ⊥
EncodeEach (piece ∷ pieces) [] = ⊥

-- tags never fall, from a tag on
abbrev pub TagsRise : ℕ → List Entry → Type 0
TagsRise tag [] = Unit {0}
TagsRise tag (e ∷ es) = (tag ≤ tag_of e.key) × TagsRise (tag_of e.key) es

-- Pieces in turn are entries: their tags never fall, and no key comes twice.
pub record Read (pieces : List (List ℕ)) (entries : List Entry) : Type 0 where
  pub encoded : EncodeEach pieces entries
  pub few : length entries ≤ most_entries
  pub tags : TagsRise 0 entries
  pub once : repeated (keys entries) ≡ None

-- An attribute of a list: after the number 2 each eight bytes are an entry, and the entries are the list, which is
-- valid.
pub record IsAttribute (bytes : List ℕ) (acl : KeyMap) : Type 0 where
  pub head : has_head bytes ≡ true
  pub pieces : List (List ℕ)
  pub entries : List Entry
  pub parts : drop 4 bytes ≡ flat_map (λ piece. piece) pieces
  pub read : Read pieces entries
  pub list : map_of entries ≡ acl
  pub valid : IsValid acl

-- The first faulty entry: those before it are read, and with it no entry is.
pub record IsOfAnEntry (bytes : List ℕ) (at : ℕ) : Type 0 where
  pub head : has_head bytes ≡ true
  pub before : List (List ℕ)
  pub piece : List ℕ
  pub after : List (List ℕ)
  pub parts : entries_in (drop 4 bytes) ≡ before ++ piece ∷ after
  pub place : at ≡ 1 + length before
  pub entries : List Entry
  pub read : Read before entries
  pub faulty : (e : Entry) → Read (before ++ piece ∷ []) (entries ++ e ∷ []) → ⊥

-- All entries are read, and are not a valid list: the fault's place is after the last.
pub record IsOfTheList (bytes : List ℕ) (at : ℕ) : Type 0 where
  pub head : has_head bytes ≡ true
  pub entries : List Entry
  pub read : Read (entries_in (drop 4 bytes)) entries
  pub no_list : IsValid (map_of entries) → ⊥
  pub place : at ≡ length entries + 1

-- where an attribute is faulty: at 0 in front, at its first faulty entry, or after the last
abbrev pub IsFaultyAt : List ℕ → ℕ → Type 0
IsFaultyAt bytes at = ((has_head bytes ≡ false) × (at ≡ 0)) ⊎ (IsOfAnEntry bytes at ⊎ IsOfTheList bytes at)
