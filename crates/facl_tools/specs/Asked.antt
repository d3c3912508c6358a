-- What a line gives, asked by a name. Each question takes a proof that the tool's syntax has the name: `refl`, where the
-- name is written out. So a name that the syntax does not have is refused, and does not read as absent.
use Rattle.std.specs.Prelude.{◌≡◌, Bool, true, List, Option}
use Rattle.std.specs.List.{list_any}
use Rattle.std.specs.Str.{bytes_eq}
use Rattle.facl_script.specs.Forms.{Text}
use Rattle.facl_script.specs.Naming as words
use Rattle.facl_script.specs.Syntax.{Syntax}
use Rattle.facl_script.specs.declared.tool_words.Words.{Words}

-- the syntax has a flag, an option or an operand of this name
abbrev pub IsFlag : Syntax → Text → Type 0
IsFlag syntax name = list_any (λ flag. bytes_eq flag.id name) syntax.flags ≡ true

abbrev pub IsOption : Syntax → Text → Type 0
IsOption syntax name = list_any (λ option. bytes_eq option.id name) syntax.options ≡ true

abbrev pub IsOperand : Syntax → Text → Type 0
IsOperand syntax name = list_any (λ operand. bytes_eq operand.id name) syntax.operands ≡ true

-- the flag was given
abbrev pub has : (syntax : Syntax) → Words → (name : Text) → IsFlag syntax name → Bool
has syntax w name is_known = words.has syntax w name

-- the value of the option: its fallback where it is absent, if it has one
abbrev pub value : (syntax : Syntax) → Words → (name : Text) → IsOption syntax name → Option Text
value syntax w name is_known = words.value syntax w name

-- the option has a value: it was given, or has a fallback
abbrev pub gives : (syntax : Syntax) → Words → (name : Text) → IsOption syntax name → Bool
gives syntax w name is_known = words.gives syntax w name

-- the operand, and nothing where it is absent
abbrev pub operand : (syntax : Syntax) → Words → (name : Text) → IsOperand syntax name → Text
operand syntax w name is_known = words.operand syntax w name

-- the operands from this one on
abbrev pub operands_from : (syntax : Syntax) → Words → (name : Text) → IsOperand syntax name → List Text
operands_from syntax w name is_known = words.operands_from syntax w name
