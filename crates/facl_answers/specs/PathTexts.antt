-- For inner functions of `changes` and `gains`: the path of a file of two states as it is printed.
use Rattle.std.specs.Prelude.{List, [], ℕ, map, Option, unwrap_or}
use Rattle.std.specs.Option.{option_or}
use Rattle.std.specs.FinMap.{find}
use Rattle.acl_names.specs.Paths.{path_cmp, PathOf}
use Rattle.acl_tree.specs.Files.{Files, Recorded}
use Rattle.acl_tree.specs.Found.{found_in}
use Rattle.facl_output.specs.Listings.{path_shown}

-- the files of a tree by their paths, as they are printed
abbrev pub shown_in : Files → List (PathOf × List ℕ)
shown_in t = map (λ file. (file.path, path_shown file)) (found_in t t)

-- the path of a file as it is printed, if it is recorded
abbrev pub text_in_tree : Files → PathOf → Option (List ℕ)
text_in_tree t p = find path_cmp p (shown_in t)

-- the same of the present tree, or of the loaded one; empty where it is in neither
abbrev pub text_in : (loaded now : Recorded) → PathOf → List ℕ
text_in loaded now p = unwrap_or (option_or (text_in_tree now.files p) (text_in_tree loaded.files p)) []
