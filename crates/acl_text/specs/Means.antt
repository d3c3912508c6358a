-- What an entry means by the table of setfacl(1), "ACL entries": how each kind of entry is written.
use Rattle.std.specs.Prelude.{◌≡◌, ℕ, ◌+◌, ◌<◌, ◌≤◌, ◌⊎◌, List, [], ◌∷◌, Bool, true, false, not, length, map, filter, Option, Some, None, Ok, codes, ◌==◌}
use Rattle.std.specs.List.{list_all, enumerate_from}
use Rattle.acl_entry.specs.declared.entry.Key.{Key}
use Rattle.acl_entry.specs.declared.entry.Key.TheVariants as keys
use Rattle.acl_entry.specs.Keys.{is_base}
use Rattle.acl_entry.specs.Perms.{numbered}
use Rattle.acl_names.specs.Pieces.{pieces}
use Rattle.acl_text.specs.Naming.{Naming}
use Rattle.acl_text.specs.declared.entries.Sep.{Sep}
use Rattle.acl_text.specs.declared.entries.Rules.{Rules}
use Rattle.acl_text.specs.declared.entries.PermSpec.{PermSpec}
use Rattle.acl_text.specs.declared.entries.Spec.{Spec}
use Rattle.acl_text.specs.declared.fields.Tag.{Tag}
use Rattle.acl_text.specs.declared.fields.Tag.TheVariants as tags
use Rattle.acl_text.specs.Blanks.{trimmed}
use Rattle.acl_text.specs.Fields.{EntryRow, entry_fields}
use Rattle.acl_text.specs.Letters.{is_letter, holds}
use Rattle.acl_text.specs.Words.{word_id}
use Rattle.acl_text.specs.Entries.{separator, content, entry_of, most_text_entries}

-- ---- the fields

-- the words for a tag
abbrev pub IsWordFor : Tag → List ℕ → Type 0
IsWordFor tags.User w = (w ≡ codes "u") ⊎ (w ≡ codes "user")
IsWordFor tags.Group w = (w ≡ codes "g") ⊎ (w ≡ codes "group")
IsWordFor tags.Mask w = (w ≡ codes "m") ⊎ (w ≡ codes "mask")
IsWordFor tags.Other w = (w ≡ codes "o") ⊎ (w ≡ codes "other")

abbrev pub IsDefaultWord : List ℕ → Type 0
IsDefaultWord w = (w ≡ codes "d") ⊎ (w ≡ codes "default")

-- the permissions field is the last, where there is one
abbrev pub last : Option (List ℕ) → List (List ℕ)
last None = []
last (Some perms) = perms ∷ []

module _ (fields : List (List ℕ)) (row : EntryRow) where
  -- `user:joe:rw`: a word for the tag, then the name, or nothing
  pub record HasTagAndName : Type 0 where
    pub tag_word : List ℕ
    pub for_tag : IsWordFor row.tag tag_word
    pub are : fields ≡ tag_word ∷ row.word ∷ last row.perms

  -- `joe:rw`: a user's name alone, which is not a word for a tag
  pub record HasNameAlone : Type 0 where
    pub filled : 0 < length row.word
    pub for_none : (tag : Tag) → IsWordFor tag row.word → ⊥
    pub are : fields ≡ row.word ∷ last row.perms

  -- `mask:rw`: a word for the tag, and no name
  pub record HasTagAlone : Type 0 where
    pub tag_word : List ℕ
    pub for_tag : IsWordFor row.tag tag_word
    pub no_name : row.word ≡ []
    pub are : fields ≡ tag_word ∷ last row.perms

  -- `mask::rw`: a word for the tag, nothing where a name might be, and permissions
  pub record HasEmptyName : Type 0 where
    pub tag_word : List ℕ
    pub for_tag : IsWordFor row.tag tag_word
    pub no_name : row.word ≡ []
    pub perms : List ℕ
    pub are_perms : row.perms ≡ Some perms
    pub are : fields ≡ tag_word ∷ [] ∷ perms ∷ []

-- the ways to write an entry, by its tag
abbrev pub WaysOf : Tag → List (List ℕ) → EntryRow → Type 0
WaysOf tags.User fields row = HasTagAndName fields row ⊎ HasNameAlone fields row
WaysOf tags.Group fields row = HasTagAndName fields row
WaysOf tags.Mask fields row = HasTagAlone fields row ⊎ HasEmptyName fields row
WaysOf tags.Other fields row = HasTagAlone fields row ⊎ HasEmptyName fields row

abbrev pub IsWritten : List (List ℕ) → EntryRow → Type 0
IsWritten fields row = WaysOf row.tag fields row

-- `d:` in front of an entry of the default list, and the fields after it
pub record IsDefaultEntry (rules : Rules) (all fields : List (List ℕ)) : Type 0 where
  pub taken : rules.takes_default ≡ true
  pub word : List ℕ
  pub for_default : IsDefaultWord word
  pub more : 0 < length fields
  pub are : all ≡ word ∷ fields

-- no `d:` in front; `d` alone is a user's name
pub record IsAccessEntry (all fields : List (List ℕ)) : Type 0 where
  pub are : all ≡ fields
  pub no_default : (word : List ℕ) (more : List (List ℕ)) → fields ≡ word ∷ more → 0 < length more → IsDefaultWord word → ⊥

abbrev pub IsOfList : Rules → List (List ℕ) → Bool → List (List ℕ) → Type 0
IsOfList rules all true fields = IsDefaultEntry rules all fields
IsOfList rules all false fields = IsAccessEntry all fields

-- ---- whom it is for

module _ (naming : Naming) where
  -- an empty name is the owner's or the owning group's; any other is that of an id
  abbrev pub IsFor : Key → Tag → List ℕ → Type 0
  IsFor keys.Owner tag word = (tag ≡ tags.User) × (word ≡ [])
  IsFor (keys.User id) tag word = (tag ≡ tags.User) × (0 < length word) × (word_id naming.user_id word ≡ Some id)
  IsFor keys.OwningGroup tag word = (tag ≡ tags.Group) × (word ≡ [])
  IsFor (keys.Group id) tag word = (tag ≡ tags.Group) × (0 < length word) × (word_id naming.group_id word ≡ Some id)
  IsFor keys.Mask tag word = tag ≡ tags.Mask
  IsFor keys.Other tag word = tag ≡ tags.Other

-- ---- its permissions

-- one digit 0 to 7
pub record IsDigit (field : List ℕ) (perm : PermSpec) : Type 0 where
  pub digit : ℕ
  pub small : digit < 8
  pub is : field ≡ (48 + digit) ∷ []
  pub fixed : perm.fixed ≡ numbered digit
  pub cond_x : perm.cond_x ≡ false

-- letters in any order, or nothing: each grants what it names, and `X` is execute under a condition
pub record AreLetters (takes_x : Bool) (field : List ℕ) (perm : PermSpec) : Type 0 where
  pub letters : list_all (is_letter takes_x) field ≡ true
  pub read : perm.fixed.read ≡ holds 114 field
  pub write : perm.fixed.write ≡ holds 119 field
  pub execute : perm.fixed.execute ≡ holds 120 field
  pub cond_x : perm.cond_x ≡ holds 88 field

abbrev pub Grants : Bool → List ℕ → PermSpec → Type 0
Grants takes_x field perm = IsDigit field perm ⊎ AreLetters takes_x field perm

-- where permissions are taken, each entry has a field of them; else it has none or an empty one
abbrev pub HasPerms : (takes_perms takes_x : Bool) → Option (List ℕ) → Option PermSpec → Type 0
HasPerms true takes_x None perm = ⊥
HasPerms true takes_x (Some field) None = ⊥
HasPerms true takes_x (Some field) (Some perm) = Grants takes_x field perm
HasPerms false takes_x field None = (field ≡ None) ⊎ (field ≡ Some [])
HasPerms false takes_x field (Some perm) = ⊥

-- ---- an entry

-- what an entry at a place means, by the rules of its use
pub record Means (naming : Naming) (rules : Rules) (at : ℕ) (entry : List ℕ) (spec : Spec) : Type 0 where
  pub place : spec.at ≡ at
  pub fields : List (List ℕ)
  pub of_list : IsOfList rules (entry_fields entry) spec.dflt fields
  pub row : EntryRow
  pub written : IsWritten fields row
  pub is_for : IsFor naming spec.key row.tag row.word
  pub perms : HasPerms rules.takes_perms rules.takes_x row.perms spec.perm
  pub no_base : rules.takes_perms ≡ false → is_base spec.key ≡ false

-- ---- the entries of a text

-- the pieces without their comments, each with its number; those of white space alone are ignored
abbrev pub numbered_entries : Sep → List ℕ → List (ℕ × List ℕ)
numbered_entries sep bytes = filter (λ e. not (length (trimmed e.1) == 0)) (enumerate_from 1 (map (content sep) (pieces (separator sep) bytes)))

-- each entry means one spec, in their order, and there are at most `most_text_entries`
pub record AreRead (naming : Naming) (sep : Sep) (rules : Rules) (bytes : List ℕ) (specs : List Spec) : Type 0 where
  pub each : map (λ e. entry_of naming rules e.0 e.1) (numbered_entries sep bytes) ≡ map (λ spec. Ok spec) specs
  pub few : length specs ≤ most_text_entries
