-- The rows of the program's table, as the lines of the definitions.
use Rattle.std.specs.Prelude.{map, option_map}
use Rattle.facl_script.specs.Syntax.{Syntax, OperandSyntax, OptionSyntax}
use Rattle.facl_script.specs.declared.syntax.OptionRow.{OptionRow}
use Rattle.facl_script.specs.declared.syntax.OperandRow.{OperandRow}
use Rattle.facl_script.specs.declared.syntax.Syntax.{Syntax as SyntaxRow}

abbrev pub option_view : OptionRow → OptionSyntax
option_view s = record {
  id = s.id.now;
  short = s.short;
  long = option_map (λ t. t.now) s.long;
  fallback = option_map (λ t. t.now) s.fallback;
  is_text = s.is_text;
}

abbrev pub operand_view : OperandRow → OperandSyntax
operand_view o = record { id = o.id.now; is_required = o.is_required; is_repeated = o.is_repeated }

abbrev pub syntax_view : SyntaxRow → Syntax
syntax_view syntax = record {
  flags = map option_view syntax.flags.now;
  options = map option_view syntax.options.now;
  operands = map operand_view syntax.operands.now;
}
