-- What chacl(1) `-l` prints of files.
use Rattle.std.specs.Prelude.{ℕ, List, [], ◌∷◌, ◌++◌, Option, Some, None, codes}
use Rattle.std.specs.List.{flat_map}
use Rattle.acl_entry.specs.Lists.{KeyMap, entries}
use Rattle.acl_text.specs.Naming.{Naming}
use Rattle.acl_text.specs.Writing.{short}
use Rattle.acl_tree.specs.Found.{FoundFile}
use Rattle.facl_output.specs.Listings.{path_shown}

module _ (naming : Naming) where
  -- a default list comes after a `/`
  abbrev pub default_part : Option KeyMap → List ℕ
  default_part None = []
  default_part (Some dacl) = codes "/" ++ short naming (entries dacl)

  -- a file: its path and, in brackets, its lists in the short form
  abbrev pub chacl_line : FoundFile → List ℕ
  chacl_line file =
      path_shown file
      ++ (codes " [" ++ (short naming (entries file.node.label.acl) ++ (default_part file.node.dacl ++ 93 ∷ 10 ∷ [])))

  -- the files one after another
  abbrev pub chacl_listing : List FoundFile → List ℕ
  chacl_listing files = flat_map chacl_line files
