-- The written forms of a list (acl(5), "ACL text forms"; getfacl(1)).
use Rattle.std.specs.Prelude.{◌≡◌, ℕ, ◌+◌, ◌<◌, List, [], ◌∷◌, ◌++◌, length, true, false, Option, Some, None, codes, decimal}
use Rattle.std.specs.List.{list_all, flat_map, AllByRecursion}
use Rattle.acl_entry.specs.Perms.{text}
use Rattle.acl_entry.specs.declared.entry.Key.{Key}
use Rattle.acl_entry.specs.declared.entry.Key.TheVariants.{Owner, User, OwningGroup, Group, Mask, Other}
use Rattle.acl_entry.specs.declared.entry.Entry.{Entry}
use Rattle.acl_names.specs.Pieces.{is_byte}
use Rattle.acl_names.specs.Names.{escaped}
use Rattle.acl_text.specs.Naming.{Naming}
use Rattle.acl_text.specs.declared.entries.Form.{Form}
use Rattle.acl_text.specs.declared.entries.Form.TheVariants.{Long, Short}
use Rattle.acl_text.specs.declared.entries.Spec.{Spec}
use Rattle.acl_text.specs.Ids.{is_number}

-- the tag of an entry
abbrev pub tag_text : Form → Key → List ℕ
tag_text Long Owner = codes "user"
tag_text Long (User id) = codes "user"
tag_text Long OwningGroup = codes "group"
tag_text Long (Group id) = codes "group"
tag_text Long Mask = codes "mask"
tag_text Long Other = codes "other"
tag_text Short Owner = codes "u"
tag_text Short (User id) = codes "u"
tag_text Short OwningGroup = codes "g"
tag_text Short (Group id) = codes "g"
tag_text Short Mask = codes "m"
tag_text Short Other = codes "o"

-- an id is written as its name, and as a number where it has none
abbrev pub id_text : ℕ → Option (List ℕ) → List ℕ
id_text id None = decimal id
id_text id (Some name) = escaped name

module _ (naming : Naming) where
  abbrev pub qualifier : Key → List ℕ
  qualifier Owner = []
  qualifier (User id) = id_text id (naming.user_name id)
  qualifier OwningGroup = []
  qualifier (Group id) = id_text id (naming.group_name id)
  qualifier Mask = []
  qualifier Other = []

  -- tag, qualifier and permissions, with a colon between each two
  abbrev pub entry_text : Form → Entry → List ℕ
  entry_text form e = tag_text form e.key ++ 58 ∷ (qualifier e.key ++ 58 ∷ text e.perm)

  abbrev pub line_text : Entry → List ℕ
  line_text e = entry_text Long e ++ 10 ∷ []

  -- the long form: a line for each entry
  abbrev pub long : List Entry → List ℕ
  long es = flat_map line_text es

  abbrev pub after_comma : Entry → List ℕ
  after_comma e = 44 ∷ entry_text Short e

  -- the short form: entries with a comma between each two
  abbrev pub short : List Entry → List ℕ
  short [] = []
  short (e ∷ es) = entry_text Short e ++ flat_map after_comma es

-- what an entry is read as
abbrev pub spec_of : ℕ → Entry → Spec
spec_of at e = record { at = at; dflt = false; key = e.key; perm = Some (record { fixed = e.perm; cond_x = false }) }

-- the entries with their numbers
abbrev pub specs_from : ℕ → List Entry → List Spec
specs_from at [] = []
specs_from at (e ∷ es) = spec_of at e ∷ specs_from (at + 1) es

-- ---- namings under which a written list is read as that list

-- a name is made of bytes, not empty, not digits alone, and looked up as the id that it was printed for
pub record IsFoundAs (look_up : List ℕ → Option ℕ) (id : ℕ) (name : List ℕ) : Type 0 where
  pub made_of_bytes : list_all is_byte name ≡ true
  pub not_empty : 0 < length name
  pub no_number : is_number name ≡ false
  pub found : look_up name ≡ Some id

-- an id's name, if it has one, is found again
abbrev pub IsNamed : (List ℕ → Option ℕ) → ℕ → Option (List ℕ) → Type 0
IsNamed look_up id None = Unit {0}
IsNamed look_up id (Some name) = IsFoundAs look_up id name

module _ (naming : Naming) where
  -- the name of a key's user or group is found again
  abbrev pub IsKeyNamed : Key → Type 0
  IsKeyNamed Owner = Unit {0}
  IsKeyNamed (User id) = IsNamed naming.user_id id (naming.user_name id)
  IsKeyNamed OwningGroup = Unit {0}
  IsKeyNamed (Group id) = IsNamed naming.group_id id (naming.group_name id)
  IsKeyNamed Mask = Unit {0}
  IsKeyNamed Other = Unit {0}

  -- each name that is printed for an entry is found again under the printed id
  abbrev pub AreNamed : List Entry → Type 0
  AreNamed es = AllByRecursion (λ e. IsKeyNamed e.key) es
