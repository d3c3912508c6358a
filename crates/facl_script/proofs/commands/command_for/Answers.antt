use Rattle.std.proofs.Common.{◌++◌, [], map, rules, arith}
use Rattle.std.proofs.lemmas.Grind.{common_steps}
use Rattle.clap.specs.declared.builder.action.ArgAction.TheVariants.{Set, SetTrue}
use Rattle.facl_script.specs.Commands.{bare_app, operand_rule, option_rule}
use Rattle.facl_script.specs.Rows.{operand_view, option_view}
use Rattle.facl_script.proofs.Building.{rules_more}
use Rattle.facl_script.proofs.commands.command_for.Goals as goal

pub loop-flag-preserved : goal.loop-flag-preserved
loop-flag-preserved c =
    rules_more (option_rule SetTrue) option_view bare_app _ _ [] _ _ _ _ (search rules) c.loop-flag.invariant c.option_arg.ensures.rule
    (c.in_ok-command.ensures.shape c.option_arg.ensures.local)

pub loop-option-preserved : goal.loop-option-preserved
loop-option-preserved c =
    rules_more (option_rule Set) option_view bare_app _ _ (map (option_rule SetTrue) (map option_view c.args.syntax.now.flags.now)) _ _ _ _ (search rules)
    c.loop-option.invariant c.option_arg-in-loop-option.ensures.rule
    (c.in_ok-command-2.ensures.shape c.option_arg-in-loop-option.ensures.local)

pub loop-operand-preserved : goal.loop-operand-preserved
loop-operand-preserved c =
    rules_more operand_rule operand_view bare_app _ _
    (map (option_rule SetTrue) (map option_view c.args.syntax.now.flags.now) ++ map (option_rule Set) (map option_view c.args.syntax.now.options.now)) _ _ _ _
    (search rules) c.loop-operand.invariant c.operand_arg.ensures.rule
    (c.in_ok-command-3.ensures.shape c.operand_arg.ensures.local)

pub loop-option-init : goal.loop-option-init
loop-option-init c = grind (arith, common_steps)

pub loop-operand-init : goal.loop-operand-init
loop-operand-init c = grind (arith, common_steps)

pub returns : goal.returns
returns c = grind (arith, common_steps)
