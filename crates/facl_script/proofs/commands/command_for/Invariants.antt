use Rattle.std.proofs.Common.{◌≡◌, ◌++◌, map, take}
use Rattle.clap.specs.Words.{app_of}
use Rattle.clap.specs.declared.builder.action.ArgAction.TheVariants.{Set, SetTrue}
use Rattle.facl_script.specs.Commands.{bare_app, operand_rule, option_rule, with_rules}
use Rattle.facl_script.specs.Rows.{operand_view, option_view}
use Rattle.facl_script.proofs.commands.command_for.Given as goal

abbrev pub invariant-loop-flag : goal.invariant-loop-flag
invariant-loop-flag l =
    app_of l.command ≡ with_rules bare_app (map (option_rule SetTrue) (map option_view (take l.flag-index l.syntax.flags.now)))

abbrev pub invariant-loop-option : goal.invariant-loop-option
invariant-loop-option l =
    app_of l.command ≡ with_rules bare_app (map (option_rule SetTrue) (map option_view l.syntax.flags.now)
    ++ map (option_rule Set) (map option_view (take l.option-index l.syntax.options.now)))

abbrev pub invariant-loop-operand : goal.invariant-loop-operand
invariant-loop-operand l =
    app_of l.command ≡ with_rules bare_app (map (option_rule SetTrue) (map option_view l.syntax.flags.now)
    ++ map (option_rule Set) (map option_view l.syntax.options.now)
    ++ map operand_rule (map operand_view (take l.operand-index l.syntax.operands.now)))
