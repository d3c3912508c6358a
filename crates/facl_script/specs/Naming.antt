-- What a line gives, asked by the names of its syntax.
use Rattle.std.specs.Prelude.{ℕ, Bool, false, List, [], Option, None, drop, is_some, map}
use Rattle.std.specs.List.{position_or_len, slice_index_or}
use Rattle.std.specs.Str.{bytes_eq}
use Rattle.facl_script.specs.Forms.{Text}
use Rattle.facl_script.specs.Syntax.{Syntax}
use Rattle.facl_script.specs.declared.tool_words.Words.{Words}

-- the place of a name among names, counted from 0
abbrev pub place : Text → List Text → ℕ
place name names = position_or_len (λ n. bytes_eq n name) names

-- the flag was given
abbrev pub has : Syntax → Words → Text → Bool
has syntax w name = slice_index_or w.flags (place name (map (λ s. s.id) syntax.flags)) false

-- the value of the option: its fallback where it is absent, if it has one
abbrev pub value : Syntax → Words → Text → Option Text
value syntax w name = slice_index_or w.values (place name (map (λ s. s.id) syntax.options)) None

-- the option has a value: it was given, or has a fallback
abbrev pub gives : Syntax → Words → Text → Bool
gives syntax w name = is_some (value syntax w name)

-- the operand, and nothing where it is absent
abbrev pub operand : Syntax → Words → Text → Text
operand syntax w name = slice_index_or w.operands (place name (map (λ o. o.id) syntax.operands)) []

-- the operands from this one on
abbrev pub operands_from : Syntax → Words → Text → List Text
operands_from syntax w name = drop (place name (map (λ o. o.id) syntax.operands)) w.operands
