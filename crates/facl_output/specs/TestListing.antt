-- What setfacl(1) prints with `--test`: files with the lists that they would have.
use Rattle.std.specs.Prelude.{ℕ, List, [], ◌∷◌, ◌++◌, Option, Some, None, codes}
use Rattle.std.specs.List.{flat_map}
use Rattle.acl_entry.specs.declared.entry.Entry.{Entry}
use Rattle.acl_entry.specs.Lists.{KeyMap, entries}
use Rattle.acl_edit.specs.declared.node.Node.{Node}
use Rattle.acl_text.specs.Naming.{Naming}
use Rattle.acl_text.specs.declared.entries.Form.TheVariants.{Short}
use Rattle.acl_text.specs.Writing.{entry_text, short}
use Rattle.acl_tree.specs.Found.{FoundFile}
use Rattle.facl_output.specs.Listings.{path_shown}

module _ (naming : Naming) where
  -- a default entry after the access list
  abbrev pub default_entry : Entry → List ℕ
  default_entry e = codes ",d:" ++ entry_text naming Short e

  abbrev pub default_entries : Option KeyMap → List ℕ
  default_entries None = []
  default_entries (Some dacl) = flat_map default_entry (entries dacl)

  -- both lists in the short form, with commas between the entries
  abbrev pub lists_text : Node → List ℕ
  lists_text n = short naming (entries n.label.acl) ++ default_entries n.dacl

  -- a file: its path, its lists, and a line feed
  abbrev pub file_line : FoundFile → List ℕ
  file_line file = path_shown file ++ (codes ": " ++ (lists_text file.node ++ 10 ∷ []))

  -- the files one after another
  abbrev pub test_listing : List FoundFile → List ℕ
  test_listing files = flat_map file_line files
