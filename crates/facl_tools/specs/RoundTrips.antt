-- Where what tools print of the lists of files is read by tools as these lists.
use Rattle.std.specs.Prelude.{◌≡◌, ℕ, List, [], ◌∷◌, ◌++◌, Bool, false, Option, Some, None, IfSome, Ok, codes, option_map}
use Rattle.acl_edit.specs.Edits.{edit}
use Rattle.acl_edit.specs.Nodes.{with_lists}
use Rattle.acl_edit.specs.declared.edit.Edit.TheVariants.{Put}
use Rattle.acl_edit.specs.declared.node.Node.{Node}
use Rattle.acl_entry.specs.Lists.{KeyMap}
use Rattle.acl_people.specs.KnownPeople.{KnownPeople, naming_of}
use Rattle.acl_text.specs.declared.fault.Which.{Which}
use Rattle.acl_text.specs.declared.fault.Which.TheVariants.{Access, Default}
use Rattle.acl_names.specs.Paths.{PathOf}
use Rattle.acl_tree.specs.Found.{FoundFile}
use Rattle.facl_output.specs.AttrListings.{attr_line}
use Rattle.facl_output.specs.ChaclListings.{chacl_line}
use Rattle.facl_output.specs.Listings.{path_shown}
use Rattle.facl_output.specs.TestListing.{file_line}
use Rattle.facl_script.specs.Forms.{Text}
use Rattle.facl_output.specs.declared.fault.Source.TheVariants.{Entry, DefaultEntry}
use Rattle.facl_tools.specs.Lists.{list_of_text}
use Rattle.facl_tools.specs.Setattr as setattr
use Rattle.facl_tools.specs.Setattr.{attribute_of, attribute_with, put_of}
use Rattle.facl_tools.specs.Setfacl.{edit_of, entries_of_line}
use Rattle.facl_tools.specs.declared.setfacl_entries.ChangeEntries.{ChangeEntries}
use Rattle.facl_tools.specs.declared.setfacl.ChangeLine.{ChangeLine}
use Rattle.facl_tools.specs.declared.setfacl.EntrySource.TheVariants.{InWord}

-- a recorded file as it is listed
abbrev pub file_listed : PathOf × Node → Bool → FoundFile
file_listed e has_below = record { path = e.0; node = e.1; has_below = has_below }

-- ---- chacl

-- a default list comes after a `/`
abbrev pub after_slash : Option Text → List ℕ
after_slash None = []
after_slash (Some text) = codes "/" ++ text

-- In brackets, `chacl -l` prints texts that chacl reads as the file's lists. Put into the file, they leave it as it is.
pub record IsReadByChacl (known : KnownPeople) (e : PathOf × Node) : Type 0 where
  pub access_text : Text
  pub default_text : Option Text
  pub line : (has_below : Bool) → chacl_line (naming_of known) (file_listed e has_below)
      ≡ path_shown (file_listed e has_below) ++ (codes " [" ++ (access_text ++ (after_slash default_text ++ 93 ∷ 10 ∷ [])))
  pub access : list_of_text known Entry Access access_text ≡ Ok e.1.label.acl
  pub dacl : option_map (list_of_text known DefaultEntry Default) default_text ≡ option_map Ok e.1.dacl
  pub same : (in_recursion : Bool) → edit e.1 (Put (Some e.1.label.acl) e.1.dacl) in_recursion ≡ Ok e.1

-- ---- setattr

-- A line that `attr` prints of a list is a word that setattr reads as this list. Put into the file, it leaves it as it
-- is.
pub record IsReadBySetattr (n : Node) (which : Which) (name : Text) (acl : KeyMap) : Type 0 where
  pub word : Text
  pub digits : Text
  pub line : attr_line name acl ≡ word ++ 10 ∷ []
  pub read : attribute_of word ≡ Some (attribute_with which digits)
  pub list : setattr.list_of_digits digits ≡ Ok acl
  pub same : (in_recursion : Bool) → edit n (put_of which acl) in_recursion ≡ Ok n

-- so are the lines of both lists
pub record AreReadBySetattr (n : Node) : Type 0 where
  pub access : IsReadBySetattr n Access (codes "system.posix_acl_access") n.label.acl
  pub dacl : IfSome n.dacl (IsReadBySetattr n Default (codes "system.posix_acl_default"))

-- ---- setfacl

-- `setfacl --set TEXT FILE..`
abbrev pub set_line : Text → List Text → ChangeLine
set_line text files = record {
  flags = record { strip = false; drop_default = false; as_default = false; no_mask = false; remask = false };
  recursive = false;
  test = false;
  removed = None;
  modified = None;
  set = Some (InWord text);
  files = files;
}

-- After the path, `setfacl --test` prints a text that `setfacl --set` reads as entries that give the file's lists to a
-- file of its kind. A text without default entries leaves a default list, so this is of files without one where this
-- file has none.
pub record IsReadBySet (known : KnownPeople) (e : PathOf × Node) : Type 0 where
  pub lists : Text
  pub entries : ChangeEntries
  pub line : (has_below : Bool) → file_line (naming_of known) (file_listed e has_below)
      ≡ path_shown (file_listed e has_below) ++ (codes ": " ++ (lists ++ 10 ∷ []))
  pub read : (files : List Text) (text : List ℕ) → entries_of_line known (set_line lists files) text ≡ Ok entries
  pub set : (files : List Text) (m : Node) (in_recursion : Bool) → m.kind ≡ e.1.kind → (e.1.dacl ≡ None → m.dacl ≡ None)
      → edit m (edit_of (set_line lists files).flags entries) in_recursion ≡ Ok (with_lists m e.1.label.acl e.1.dacl)
