-- The program's own words.
use Rattle.std.specs.Prelude.{List, [], ◌∷◌, Option, codes, option_map}
use Rattle.facl_script.specs.Forms.{Text}
use Rattle.facl_script.specs.Syntax.{Syntax, by_name}
use Rattle.facl_script.specs.Commands.{taken, values_in}

-- the three files
abbrev pub program_syntax : Syntax
program_syntax = record {
  flags = [];
  options = by_name (codes "passwd") ∷ by_name (codes "group") ∷ by_name (codes "dump") ∷ [];
  operands = [];
}

-- the files of `--passwd`, `--group` and `--dump`, where clap takes the words
unfoldable pub files_for : List Text → Option (List (Option Text))
files_for words = option_map (values_in program_syntax) (taken program_syntax words)
