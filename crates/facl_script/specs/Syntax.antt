-- The words that a tool takes, or the program: its syntax, made of its flags, its options and its operands.
use Rattle.std.specs.Prelude.{ℕ, Bool, true, false, List, Option, Some, None, slice_get}
use Rattle.facl_script.specs.Forms.{Text}

-- A flag, or an option with one value, with its letter and its long name. Its id is the long name,
-- and the letter where there is none.
pub record OptionSyntax : Type 0 where
  pub id : Text
  pub short : Option ℕ
  pub long : Option Text
  -- the value of an option that is absent
  pub fallback : Option Text
  -- its value is `-`, and the lines after the line are its text
  pub is_text : Bool

-- a flag or an option with a letter and a long name
abbrev pub both : Text → Text → OptionSyntax
both letter name = record { id = name; short = slice_get letter 0; long = Some name; fallback = None; is_text = false }

-- a flag or an option with a letter alone
abbrev pub by_letter : Text → OptionSyntax
by_letter letter = record { id = letter; short = slice_get letter 0; long = None; fallback = None; is_text = false }

-- a flag or an option with a long name alone
abbrev pub by_name : Text → OptionSyntax
by_name name = record { id = name; short = None; long = Some name; fallback = None; is_text = false }

-- an option that reads the lines after the line
abbrev pub of_text : OptionSyntax → OptionSyntax
of_text s = record s { is_text = true }

-- an option with a long name alone, and its value where it is absent
abbrev pub by_name_or : Text → Text → OptionSyntax
by_name_or name value = record (by_name name) { fallback = Some value }

pub record OperandSyntax : Type 0 where
  pub id : Text
  pub is_required : Bool
  pub is_repeated : Bool

-- an operand that has to be given, once
abbrev pub one : Text → OperandSyntax
one id = record { id = id; is_required = true; is_repeated = false }

-- operands of which at least one has to be given
abbrev pub some : Text → OperandSyntax
some id = record { id = id; is_required = true; is_repeated = true }

-- operands of any number
abbrev pub any : Text → OperandSyntax
any id = record { id = id; is_required = false; is_repeated = true }

-- the words of a tool: its flags, its options, its operands
pub record Syntax : Type 0 where
  pub flags : List OptionSyntax
  pub options : List OptionSyntax
  pub operands : List OperandSyntax
