-- The words of a line as clap reads them by a syntax.
use Rattle.std.specs.Prelude.{List, Option, option_map}
use Rattle.clap.specs.Walk.{Row}
use Rattle.facl_script.specs.Forms.{Text}
use Rattle.facl_script.specs.Syntax.{Syntax}
use Rattle.facl_script.specs.declared.tool_words.Words.{Words}
use Rattle.facl_script.specs.Commands.{flags_in, operands_in, taken, values_in}

abbrev pub words_in : Syntax → List Row → Words
words_in syntax rows = record {
  flags = flags_in syntax rows;
  values = values_in syntax rows;
  operands = operands_in syntax rows;
}

-- the words as clap reads them, where it takes them
abbrev pub words_read : Syntax → List Text → Option Words
words_read syntax words = option_map (words_in syntax) (taken syntax words)
