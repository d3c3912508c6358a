-- Where what is printed of files is read again as these files, or as their lists.
use Rattle.std.specs.Prelude.{◌≡◌, ℕ, ◌+◌, List, [], ◌∷◌, ◌++◌, map, length, Bool, true, false, Option, Some, None, IfSome, Ok}
use Rattle.std.specs.List.{list_all}
use Rattle.acl_text.specs.Attr.{attr_bytes, attr_of}
use Rattle.acl_entry.specs.Lists.{KeyMap, IsValid, entries}
use Rattle.acl_entry.specs.declared.entry.Entry.{Entry}
use Rattle.acl_names.specs.Paths.{is_component, PathOf}
use Rattle.acl_text.specs.Entries.{entries_of}
use Rattle.acl_text.specs.Writing.{short, spec_of, specs_from}
use Rattle.acl_text.specs.declared.entries.Sep.TheVariants.{Comma}
use Rattle.acl_text.specs.declared.entries.Spec.{Spec}
use Rattle.acl_text.specs.declared.entries.Want.TheVariants as wants
use Rattle.acl_edit.specs.Changes.{edit_of, options}
use Rattle.acl_edit.specs.Edits.{edit}
use Rattle.acl_edit.specs.Nodes.{with_lists}
use Rattle.acl_edit.specs.declared.node.Node.{Node}
use Rattle.acl_people.specs.KnownPeople.{KnownPeople, naming_of}
use Rattle.acl_text.specs.declared.record.DumpRecord.{DumpRecord}
use Rattle.acl_text.specs.declared.record.DumpUse.TheVariants as uses
use Rattle.acl_text.specs.RoundTrips.{IsFound, IsList, IsListIf}
use Rattle.acl_text.specs.Records.{dump_of}
use Rattle.acl_tree.specs.Files.{Files, no_files}
use Rattle.acl_tree.specs.Found.{FoundFile, files_found}
use Rattle.acl_tree.specs.State.{State}
use Rattle.acl_tree.specs.Loads.{load}
use Rattle.acl_tree.specs.Step.{step}
use Rattle.acl_tree.specs.declared.command.Command.TheVariants as commands
use Rattle.acl_tree.specs.declared.command.Table.TheVariants.{Dump}
use Rattle.hex.specs.Hex.{decode_of, encode_lower}
use Rattle.facl_output.specs.Listings.{listing, plain}
use Rattle.facl_output.specs.TestListing.{lists_text}

-- a list whose names these people find again
abbrev pub IsListAgain : KnownPeople → KeyMap → Type 0
IsListAgain known acl = IsList (naming_of known) acl

-- a file that these people read as it is written: the path is one, owner and group are found again, there are three
-- flags, and the lists are valid ones whose names are found again
pub record IsReadAgain (known : KnownPeople) (e : PathOf × Node) : Type 0 where
  pub path : list_all is_component e.0 ≡ true
  pub owner : IsFound (naming_of known).user_id (naming_of known).user_name e.1.label.owner
  pub group : IsFound (naming_of known).group_id (naming_of known).group_name e.1.label.group
  pub flags : length e.1.flags ≡ 3
  pub access : IsListAgain known e.1.label.acl
  pub dacl : IsListIf (naming_of known) e.1.dacl

-- what getfacl prints without options
abbrev pub listing_of : KnownPeople → List FoundFile → List ℕ
listing_of known files = listing (naming_of known) plain files

-- its operands are all paths
abbrev pub all_paths_listing : KnownPeople → Files → List ℕ
all_paths_listing known es = listing_of known (files_found false (map (λ e. e.0) es) es)

-- its operand is the root, with all below it
abbrev pub root_listing : KnownPeople → Files → List ℕ
root_listing known es = listing_of known (files_found true ([] ∷ []) es)

-- Where no dump is loaded, the text is loaded as a dump of these files. The people stay.
abbrev pub IsLoadedAs : KnownPeople → List ℕ → Files → Type 0
IsLoadedAs known text es =
    load (record { tree = no_files; people = known }) Dump text ≡ Ok (record { tree = record { files = es; loaded = true }; people = known })

-- Read by these people for a restore, the text is records. Restored where it was printed, they change nothing.
pub record IsRestoredAsItIs (state : State) (text : List ℕ) : Type 0 where
  pub records : List DumpRecord
  pub read : dump_of (naming_of state.people) uses.Restore text ≡ Ok records
  pub same : step state (commands.Restore records) ≡ Ok state

-- the hex digits that `attr` prints of a list are those of bytes that are read as this list
pub record IsAttributeAgain (acl : KeyMap) : Type 0 where
  pub digits : decode_of (encode_lower (attr_bytes acl)) ≡ Ok (attr_bytes acl)
  pub list : attr_of (attr_bytes acl) ≡ Ok acl

-- so of both lists of a file
pub record AreAttributesAgain (n : Node) : Type 0 where
  pub access : IsAttributeAgain n.label.acl
  pub dacl : IfSome n.dacl IsAttributeAgain

-- ---- the short text form

-- what chacl prints of a list is read by chacl as the list's entries, in list order; and the list is a valid one, so it is
-- the list that these entries make
pub record IsShortAgain (known : KnownPeople) (acl : KeyMap) : Type 0 where
  pub valid : IsValid acl
  pub read : entries_of (naming_of known) Comma wants.Plain (short (naming_of known) (entries acl)) ≡ Ok (specs_from 1 (entries acl))

-- an entry of one of a file's lists, and whether that is the default list
abbrev pub entries_for : Bool → List Entry → List (Bool × Entry)
entries_for dflt es = map (λ e. (dflt, e)) es

abbrev pub dacl_entries : Option KeyMap → List (Bool × Entry)
dacl_entries None = []
dacl_entries (Some dacl) = entries_for true (entries dacl)

-- the entries of both lists, the default list's last
abbrev pub all_entries : Node → List (Bool × Entry)
all_entries n = entries_for false (entries n.label.acl) ++ dacl_entries n.dacl

-- what they are read as, the first at this place
abbrev pub specs_of : ℕ → List (Bool × Entry) → List Spec
specs_of at [] = []
specs_of at (e ∷ es) = record (spec_of at e.1) { dflt = e.0 } ∷ specs_of (at + 1) es

-- `setfacl --set` with these entries gives a file of this one's kind the lists of this one. A text without default
-- entries leaves a default list, so this is of files without one where this file has none.
abbrev pub AreSetAs : List Spec → Node → Type 0
AreSetAs specs n =
    (m : Node) (in_recursion : Bool) → m.kind ≡ n.kind → (n.dacl ≡ None → m.dacl ≡ None)
    → edit m (edit_of (options false false false false false [] specs [])) in_recursion ≡ Ok (with_lists m n.label.acl n.dacl)

-- each list of a file is read again as chacl prints it; and what `setfacl --test` prints of both is read by
-- `setfacl --set` as the entries of both, which give these lists back
pub record AreListsAgain (known : KnownPeople) (n : Node) : Type 0 where
  pub access : IsShortAgain known n.label.acl
  pub dacl : IfSome n.dacl (IsShortAgain known)
  pub both : entries_of (naming_of known) Comma wants.WithPerms (lists_text (naming_of known) n) ≡ Ok (specs_of 1 (all_entries n))
  pub set : AreSetAs (specs_of 1 (all_entries n)) n
