-- Entry texts: the entries of a list as they are written (setfacl(1), "ACL entries").
use Rattle.std.specs.Prelude.{ℕ, List, [], ◌∷◌, ◌++◌, length, Bool, true, false, not, ◌&&◌, ◌==◌, nat_le, if◌then◌else◌, Option, Some, None, Result, Ok, Err, option_map, ok_or}
use Rattle.std.specs.List.{before_first}
use Rattle.acl_entry.specs.Keys.{is_base}
use Rattle.acl_entry.specs.declared.entry.Key.{Key}
use Rattle.acl_entry.specs.declared.entry.Key.TheVariants as keys
use Rattle.acl_names.specs.Pieces.{pieces}
use Rattle.acl_text.specs.Naming.{Naming}
use Rattle.acl_text.specs.declared.fault.FaultKind.{FaultKind}
use Rattle.acl_text.specs.declared.fault.FaultKind.TheVariants.{BadTag, MissingPerms, UnwantedPerms, BadPerms, UnknownUser, UnknownGroup, BaseEntry, TooMany}
use Rattle.acl_text.specs.declared.fault.TextFault.{TextFault}
use Rattle.acl_text.specs.declared.entries.Sep.{Sep}
use Rattle.acl_text.specs.declared.entries.Sep.TheVariants.{Comma, Line}
use Rattle.acl_text.specs.declared.entries.Want.{Want}
use Rattle.acl_text.specs.declared.entries.Want.TheVariants.{WithPerms, WithoutPerms, Plain}
use Rattle.acl_text.specs.declared.entries.Rules.{Rules}
use Rattle.acl_text.specs.declared.entries.PermSpec.{PermSpec}
use Rattle.acl_text.specs.declared.entries.Spec.{Spec}
use Rattle.acl_text.specs.declared.fields.Tag.{Tag}
use Rattle.acl_text.specs.declared.fields.Tag.TheVariants as tags
use Rattle.acl_text.specs.InTurn.{read_each}
use Rattle.acl_text.specs.Results.{◌>>=◌}
use Rattle.acl_text.specs.Blanks.{trimmed}
use Rattle.acl_text.specs.Words.{word_id}
use Rattle.acl_text.specs.Fields.{EntryRow, row_of, default_of, entry_fields}
use Rattle.acl_text.specs.Letters.{perms_of}

-- what each use of an entry text takes
abbrev pub rules_of : Want → Rules
rules_of WithPerms = record { takes_default = true; takes_perms = true; takes_x = true }
rules_of WithoutPerms = record { takes_default = true; takes_perms = false; takes_x = false }
rules_of Plain = record { takes_default = false; takes_perms = true; takes_x = false }

abbrev pub tagged : Rules → Bool × List (List ℕ) → Option EntryRow
tagged rules d = if d.0 && not rules.takes_default then None else row_of d.1

abbrev pub given_perms : Bool → Option (List ℕ) → Result (Option PermSpec) FaultKind
given_perms takes_x None = Err MissingPerms
given_perms takes_x (Some field) = ok_or (option_map Some (perms_of takes_x field)) BadPerms

abbrev pub no_perms : Option (List ℕ) → Result (Option PermSpec) FaultKind
no_perms None = Ok None
no_perms (Some []) = Ok None
no_perms (Some (b ∷ bs)) = Err UnwantedPerms

abbrev pub wanted_perms : Rules → Option (List ℕ) → Result (Option PermSpec) FaultKind
wanted_perms rules field = if rules.takes_perms then given_perms rules.takes_x field else no_perms field

-- base entries have no place among entries without permissions, which are removed
abbrev pub allowed_key : Rules → Key → Result Key FaultKind
allowed_key rules key = if not rules.takes_perms && is_base key then Err BaseEntry else Ok key

-- an entry without its comment
abbrev pub content : Sep → List ℕ → List ℕ
content Comma piece = piece
content Line piece = before_first (λ b. b == 35) piece

abbrev pub separator : Sep → ℕ
separator Comma = 44
separator Line = 10

-- the most entries of one text, empty ones not counted
abbrev pub most_text_entries : ℕ
most_text_entries = 16384

abbrev pub with_entry : List Spec → Result Spec FaultKind → Result (List Spec) FaultKind
with_entry specs entry = do
  spec ← entry
  if nat_le most_text_entries (length specs) then Err TooMany else Ok (specs ++ spec ∷ [])

module _ (naming : Naming) where
  -- an empty user or group word is the owner or the owning group
  abbrev pub key_of : Tag → List ℕ → Result Key FaultKind
  key_of tags.User [] = Ok keys.Owner
  key_of tags.User (b ∷ bs) = ok_or (option_map keys.User (word_id naming.user_id (b ∷ bs))) UnknownUser
  key_of tags.Group [] = Ok keys.OwningGroup
  key_of tags.Group (b ∷ bs) = ok_or (option_map keys.Group (word_id naming.group_id (b ∷ bs))) UnknownGroup
  key_of tags.Mask word = Ok keys.Mask
  key_of tags.Other word = Ok keys.Other

  -- what the fields of an entry mean; of its faults the first in the order of their kinds is returned
  abbrev pub entry_from : Rules → ℕ → List (List ℕ) → Result Spec FaultKind
  entry_from rules at fields = do
    row ← ok_or (tagged rules (default_of fields)) BadTag
    perm ← wanted_perms rules row.perms
    key ← key_of row.tag row.word
    allowed ← allowed_key rules key
    Ok (record { at = at; dflt = (default_of fields).0; key = allowed; perm = perm })

  abbrev pub entry_of : Rules → ℕ → List ℕ → Result Spec FaultKind
  entry_of rules at entry = entry_from rules at (entry_fields entry)

  -- the entries, once a piece is read too; one of white space is ignored
  abbrev pub one_more : Sep → Rules → ℕ → List Spec → List ℕ → Result (List Spec) FaultKind
  one_more sep rules at specs piece =
      if length (trimmed (content sep piece)) == 0 then Ok specs else with_entry specs (entry_of rules at (content sep piece))

  -- the entries of a text, or its first fault
  abbrev pub entries_of : Sep → Want → List ℕ → Result (List Spec) TextFault
  entries_of sep want bytes = read_each (one_more sep (rules_of want)) [] (pieces (separator sep) bytes)
