-- The fields of an entry: whom it is for, and its permissions field (setfacl(1), "ACL entries").
use Rattle.std.specs.Prelude.{ℕ, List, [], ◌∷◌, Bool, true, false, ◌||◌, if◌then◌else◌, Option, Some, None, codes, map, option_map}
use Rattle.std.specs.Str.{bytes_eq}
use Rattle.acl_names.specs.Pieces.{pieces}
use Rattle.acl_text.specs.declared.fields.Tag.{Tag}
use Rattle.acl_text.specs.declared.fields.Tag.TheVariants.{User, Group, Mask, Other}
use Rattle.acl_text.specs.declared.fields.Row.{Row}
use Rattle.acl_text.specs.Blanks.{trimmed}

-- what an entry contains: its tag, the word that names a user or a group, and its permissions field
pub record EntryRow : Type 0 where
  pub tag : Tag
  pub word : List ℕ
  pub perms : Option (List ℕ)

abbrev pub row_view : Row → EntryRow
row_view r = record { tag = r.tag; word = r.word.now; perms = option_map (λ p. p.now) r.perms }

-- the tag that a first field is, if it is one
abbrev pub tag_named : List ℕ → Option Tag
tag_named w =
    if bytes_eq w (codes "u") || bytes_eq w (codes "user") then Some User
    else (if bytes_eq w (codes "g") || bytes_eq w (codes "group") then Some Group
    else (if bytes_eq w (codes "m") || bytes_eq w (codes "mask") then Some Mask
    else (if bytes_eq w (codes "o") || bytes_eq w (codes "other") then Some Other
    else None)))

-- an entry of one field, of two, and of three, by the tag that its first field is
abbrev pub one_field : Option Tag → List ℕ → Option EntryRow
one_field (Some Mask) first = Some (record { tag = Mask; word = []; perms = None })
one_field (Some Other) first = Some (record { tag = Other; word = []; perms = None })
one_field (Some User) first = None
one_field (Some Group) first = None
one_field None [] = None
one_field None (b ∷ bs) = Some (record { tag = User; word = b ∷ bs; perms = None })

abbrev pub two_fields : Option Tag → List ℕ → List ℕ → Option EntryRow
two_fields (Some User) first second = Some (record { tag = User; word = second; perms = None })
two_fields (Some Group) first second = Some (record { tag = Group; word = second; perms = None })
two_fields (Some Mask) first second = Some (record { tag = Mask; word = []; perms = Some second })
two_fields (Some Other) first second = Some (record { tag = Other; word = []; perms = Some second })
two_fields None [] second = None
two_fields None (b ∷ bs) second = Some (record { tag = User; word = b ∷ bs; perms = Some second })

abbrev pub three_fields : Option Tag → List ℕ → List ℕ → Option EntryRow
three_fields (Some User) second third = Some (record { tag = User; word = second; perms = Some third })
three_fields (Some Group) second third = Some (record { tag = Group; word = second; perms = Some third })
three_fields (Some Mask) [] third = Some (record { tag = Mask; word = []; perms = Some third })
three_fields (Some Mask) (b ∷ bs) third = None
three_fields (Some Other) [] third = Some (record { tag = Other; word = []; perms = Some third })
three_fields (Some Other) (b ∷ bs) third = None
three_fields None second third = None

abbrev pub row_of : List (List ℕ) → Option EntryRow
row_of [] = None
row_of (first ∷ []) = one_field (tag_named first) first
row_of (first ∷ second ∷ []) = two_fields (tag_named first) first second
row_of (first ∷ second ∷ third ∷ []) = three_fields (tag_named first) second third
row_of (first ∷ second ∷ third ∷ fourth ∷ more) = None

abbrev pub is_default_word : List ℕ → Bool
is_default_word w = bytes_eq w (codes "d") || bytes_eq w (codes "default")

-- whether an entry is a default one, and the fields without the one that marks it
abbrev pub default_of : List (List ℕ) → Bool × List (List ℕ)
default_of [] = (false, [])
default_of (first ∷ []) = (false, first ∷ [])
default_of (first ∷ second ∷ more) = if is_default_word first then (true, second ∷ more) else (false, first ∷ second ∷ more)

-- the fields between colons, each trimmed
abbrev pub entry_fields : List ℕ → List (List ℕ)
entry_fields entry = map trimmed (pieces 58 entry)
