-- The clap command of a tool's syntax, and what clap finds in the words: both by clap's own definitions.
use Rattle.std.specs.Prelude.{Bool, true, false, List, [], ◌++◌, map, Option, Some, None, codes, unwrap_or, if◌then◌else◌}
use Rattle.std.specs.List.{flat_map}
use Rattle.std.specs.Option.{option_map_or}
use Rattle.std.specs.Str.{bytes_eq}
use Rattle.clap.specs.Walk.{Row, Rule, Text, all_of, first_of, is_empty}
use Rattle.clap.specs.Simple.{App, matches_of, new_app, new_rule, on_top}
use Rattle.clap.specs.Faults.{fault_of, is_simple_and_free}
use Rattle.clap.specs.declared.builder.action.ArgAction.{ArgAction}
use Rattle.clap.specs.declared.builder.action.ArgAction.TheVariants.{Append, Set, SetTrue}
use Rattle.facl_script.specs.Syntax.{Syntax, OperandSyntax, OptionSyntax}

-- ---- the command of a syntax

abbrev pub option_rule : ArgAction → OptionSyntax → Rule
option_rule action s =
    record (new_rule s.id) { short = s.short; long = s.long; action = Some action }

abbrev pub operand_rule : OperandSyntax → Rule
operand_rule o = record (new_rule o.id) {
  required = o.is_required;
  action = Some (if o.is_repeated then Append else Set);
}

abbrev pub rules_of : Syntax → List Rule
rules_of syntax = map (option_rule SetTrue) syntax.flags ++ map (option_rule Set) syntax.options
    ++ map operand_rule syntax.operands

-- a command of no argument, whose words do not begin with a program's name, with no help and no
-- version
abbrev pub bare_app : App
bare_app = on_top (λ s. record s {
  no_binary_name = true;
  disable_help_flag = true;
  disable_version_flag = true;
}) (new_app (codes "facl"))

abbrev pub with_rules : App → List Rule → App
with_rules a rs = on_top (λ s. record s { rules = s.rules ++ rs }) a

abbrev pub app_for : Syntax → App
app_for syntax = with_rules bare_app (rules_of syntax)

-- clap's definitions cover the command of this syntax
abbrev pub is_covered : Syntax → Bool
is_covered syntax = is_simple_and_free (app_for syntax)

-- ---- what clap finds

-- a flag that was used has the value `true`
abbrev pub is_on : Text → List Row → Bool
is_on id rows = option_map_or (λ v. bytes_eq v (codes "true")) (first_of id rows) false

-- an option's value, or what takes its place
abbrev pub value_or : Option Text → Option Text → Option Text
value_or None value = value
value_or (Some fallback) value = Some (unwrap_or value fallback)

abbrev pub flags_in : Syntax → List Row → List Bool
flags_in syntax rows = map (λ s. is_on s.id rows) syntax.flags

abbrev pub values_in : Syntax → List Row → List (Option Text)
values_in syntax rows = map (λ s. value_or s.fallback (first_of s.id rows)) syntax.options

abbrev pub operands_in : Syntax → List Row → List Text
operands_in syntax rows = flat_map (λ o. unwrap_or (all_of o.id rows) []) syntax.operands

-- what clap finds in the words, where it takes them
abbrev pub taken : Syntax → List Text → Option (List Row)
taken syntax words =
    if is_empty (fault_of (app_for syntax) words) then Some (matches_of (app_for syntax) words) else None
