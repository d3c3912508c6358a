-- What getfacl(1) prints of files.
use Rattle.std.specs.Prelude.{ℕ, List, [], ◌∷◌, ◌++◌, length, filter, Bool, false, not, ◌&&◌, ◌||◌, ◌==◌, if◌then◌else◌, Option, Some, None, is_some, is_none}
use Rattle.std.specs.List.{list_any, flat_map}
use Rattle.acl_entry.specs.Lists.{is_minimal}
use Rattle.acl_edit.specs.Nodes.{is_directory}
use Rattle.acl_edit.specs.declared.node.Node.{Node}
use Rattle.acl_text.specs.Naming.{Naming, no_names}
use Rattle.acl_text.specs.declared.fault.Which.TheVariants.{Access}
use Rattle.acl_text.specs.declared.effective.Effective.TheVariants.{WhereMasked}
use Rattle.acl_names.specs.Paths.{path_text}
use Rattle.acl_text.specs.DumpWriting.{header_text, list_text, default_text, slash_text}
use Rattle.acl_tree.specs.Found.{FoundFile}
use Rattle.facl_output.specs.declared.listing.Options.{Options}

-- a file has no more than its mode shows: a minimal access list and no default list
abbrev pub has_base_alone : Node → Bool
has_base_alone n = is_minimal n.label.acl && is_none n.dacl

abbrev pub is_listed : Options → FoundFile → Bool
is_listed options file = not (options.skip_base && has_base_alone file.node)

-- A final `/` marks a directory that nothing else shows: that is not the root, has no default list and no file below
-- it.
abbrev pub has_slash : FoundFile → Bool
has_slash file = is_directory file.node.kind && not ((length file.path == 0) || (is_some file.node.dacl || file.has_below))

-- the path of a file, with a final `/` where nothing else shows that it is a directory
abbrev pub path_shown : FoundFile → List ℕ
path_shown file = path_text file.path ++ slash_text (has_slash file)

-- the flags are printed where one of them is set
abbrev pub flags_shown : List Bool → Option (List Bool)
flags_shown flags = if list_any (λ flag. flag) flags then Some flags else None

-- the names that ids are printed as; with numbers none has one
abbrev pub names_shown : Bool → Naming → Naming
names_shown numeric naming = if numeric then no_names else naming

module _ (naming : Naming) where
  abbrev pub headers : Options → FoundFile → List ℕ
  headers options file =
      if options.omit_header then []
      else header_text naming file.path (has_slash file) (Some file.node.label.owner) (Some file.node.label.group) (flags_shown file.node.flags)

  abbrev pub default_entries : Options → Node → List ℕ
  default_entries options n = if options.access_only then [] else default_text naming options.effective n.dacl

  -- its access entries, its default entries, and an empty line
  abbrev pub entry_lines : Options → Node → List ℕ
  entry_lines options n = list_text naming options.effective Access n.label.acl ++ (default_entries options n ++ 10 ∷ [])

  -- a file: its headers and its entries
  abbrev pub file_text : Options → FoundFile → List ℕ
  file_text options file = headers options file ++ entry_lines options file.node

  -- the files one after another
  abbrev pub files_text : Options → List FoundFile → List ℕ
  files_text options files = flat_map (file_text options) (filter (is_listed options) files)

-- what getfacl prints, where users and groups have these names
abbrev pub listing : Naming → Options → List FoundFile → List ℕ
listing naming options files = files_text (names_shown options.numeric naming) options files

-- getfacl without options
abbrev pub plain : Options
plain = record { access_only = false; omit_header = false; effective = WhereMasked; skip_base = false; numeric = false }
