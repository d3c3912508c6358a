-- The program's words.
use Rattle.std.specs.Prelude.{List, [], ◌∷◌, Option, drop, option_map, string_bytes}
use Rattle.facl_script.specs.Args.{files_for}
use Rattle.facl_script.specs.Forms.{Text}
use Rattle.facl_program.specs.declared.args.Files.{Files}

-- the files that the words name, of which the first is the program's name
abbrev pub files_named : List Text → Option (List (Option Text))
files_named words = files_for (drop 1 words)

-- the names of the files of users, of groups and of a dump
abbrev pub names_of : Files → List (Option Text)
names_of files = option_map string_bytes files.passwd ∷ option_map string_bytes files.group ∷ option_map string_bytes files.dump ∷ []
