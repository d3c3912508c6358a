-- What `attr` prints of files: their lists as extended attributes.
use Rattle.std.specs.Prelude.{ℕ, List, [], ◌∷◌, ◌++◌, Option, Some, None, codes}
use Rattle.std.specs.List.{flat_map}
use Rattle.hex.specs.Hex.{encode_lower}
use Rattle.acl_entry.specs.Lists.{KeyMap}
use Rattle.acl_text.specs.Attr.{attr_bytes}
use Rattle.acl_text.specs.DumpWriting.{file_text}
use Rattle.acl_edit.specs.declared.node.Node.{Node}
use Rattle.acl_tree.specs.Found.{FoundFile}
use Rattle.facl_output.specs.Listings.{has_slash}

-- an attribute of this name: the bytes of a list as hex digits
abbrev pub attr_line : List ℕ → KeyMap → List ℕ
attr_line name acl = name ++ (codes "=0x" ++ (encode_lower (attr_bytes acl) ++ 10 ∷ []))

-- a file without a default list does not have its attribute
abbrev pub default_line : Option KeyMap → List ℕ
default_line None = []
default_line (Some dacl) = attr_line (codes "system.posix_acl_default") dacl

abbrev pub attr_lines : Node → List ℕ
attr_lines n = attr_line (codes "system.posix_acl_access") n.label.acl ++ default_line n.dacl

-- a file: its path, its attributes, and an empty line
abbrev pub attr_text : FoundFile → List ℕ
attr_text file = file_text file.path (has_slash file) ++ (attr_lines file.node ++ 10 ∷ [])

-- the files one after another
abbrev pub attr_listing : List FoundFile → List ℕ
attr_listing files = flat_map attr_text files
