-- What is listed of a file, in two parts: what its path makes, and what its node makes.
use Rattle.std.specs.Prelude.{ℕ, List, [], ◌∷◌, ◌++◌, if◌then◌else◌, Some, codes}
use Rattle.acl_entry.specs.Lists.{entries}
use Rattle.acl_edit.specs.declared.node.Node.{Node}
use Rattle.acl_text.specs.Naming.{Naming}
use Rattle.acl_text.specs.DumpWriting as dump
use Rattle.acl_text.specs.DumpWriting.{owner_text, group_text, flags_text}
use Rattle.acl_text.specs.Writing.{short}
use Rattle.acl_tree.specs.Found.{FoundFile}
use Rattle.facl_output.specs.Listings.{entry_lines, flags_shown, has_slash}
use Rattle.facl_output.specs.TestListing.{lists_text}
use Rattle.facl_output.specs.ChaclListings.{default_part}
use Rattle.facl_output.specs.declared.listing.Options.{Options}

abbrev pub path_line : Options → FoundFile → List ℕ
path_line options file = if options.omit_header then [] else dump.file_text file.path (has_slash file)

module _ (naming : Naming) where
  abbrev pub id_lines : Options → Node → List ℕ
  id_lines options n =
      if options.omit_header then []
      else owner_text naming.user_name (Some n.label.owner) ++ (group_text naming.group_name (Some n.label.group) ++ flags_text (flags_shown n.flags))

  -- the lines of a record after that of the path
  abbrev pub after_path : Options → Node → List ℕ
  after_path options n = id_lines options n ++ entry_lines naming options n

  -- the same of setfacl's `--test`, and of chacl's `-l`
  abbrev pub after_tested_path : Node → List ℕ
  after_tested_path n = codes ": " ++ (lists_text naming n ++ 10 ∷ [])

  abbrev pub after_chacl_path : Node → List ℕ
  after_chacl_path n = codes " [" ++ (short naming (entries n.label.acl) ++ (default_part naming n.dacl ++ 93 ∷ 10 ∷ []))
