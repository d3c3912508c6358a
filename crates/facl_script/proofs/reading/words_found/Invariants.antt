use Rattle.std.proofs.Common.{◌≡◌, [], map, take, unwrap_or}
use Rattle.std.specs.List.{flat_map}
use Rattle.clap.specs.Words.{all_of, first_of, found_of, rows_of}
use Rattle.facl_script.specs.Commands.{flags_in, is_on, value_or, values_in}
use Rattle.facl_script.specs.Rows.{operand_view, option_view, syntax_view}
use Rattle.facl_script.proofs.reading.words_found.Given as goal

abbrev pub invariant-loop-flag : goal.invariant-loop-flag
invariant-loop-flag l =
    l.flags.items ≡ map (λ s. is_on s.id (rows_of (found_of l.matches))) (map option_view (take l.flag-index l.syntax.flags.now))

abbrev pub invariant-loop-option : goal.invariant-loop-option
invariant-loop-option l = record {
  flags : l.flags.items ≡ flags_in (syntax_view l.syntax) (rows_of (found_of l.matches));
  values : l.values.items ≡ map (λ s. value_or s.fallback (first_of s.id (rows_of (found_of l.matches)))) (map option_view (take l.option-index l.syntax.options.now));
}

abbrev pub invariant-loop-operand : goal.invariant-loop-operand
invariant-loop-operand l = record {
  flags : l.flags.items ≡ flags_in (syntax_view l.syntax) (rows_of (found_of l.matches));
  values : l.values.items ≡ values_in (syntax_view l.syntax) (rows_of (found_of l.matches));
  operands : l.operands.items ≡ flat_map (λ o. unwrap_or (all_of o.id (rows_of (found_of l.matches))) []) (map operand_view (take l.operand-index l.syntax.operands.now));
}
