-- The words of setfacl(1), and the line that they give.
use Rattle.std.specs.Prelude.{List, [], ◌∷◌, ◌&&◌, ◌||◌, Bool, not, codes, refl, if◌then◌else◌, Option, None, Some, option_map}
use Rattle.std.specs.Bool.{beq}
use Rattle.facl_tools.specs.declared.setfacl.ChangeFlags.{ChangeFlags}
use Rattle.facl_script.specs.Forms.{Text, files_of, is_empty}
use Rattle.facl_script.specs.Syntax.{Syntax, any, both, by_name, of_text}
use Rattle.facl_script.specs.declared.tool_words.Words.{Words}
use Rattle.facl_tools.specs.Asked.{gives, has, operands_from, value}
use Rattle.facl_tools.specs.declared.setfacl.ChangeLine.{ChangeLine}
use Rattle.facl_tools.specs.declared.setfacl.EntrySource.{EntrySource}
use Rattle.facl_tools.specs.declared.setfacl.EntrySource.TheVariants.{InText, InWord}
use Rattle.facl_tools.specs.declared.setfacl.SetfaclLine.{SetfaclLine}
use Rattle.facl_tools.specs.declared.setfacl.SetfaclLine.TheVariants.{Change, Restore}

abbrev pub syntax : Syntax
syntax = record {
  flags = both (codes "b") (codes "remove-all")
      ∷ both (codes "k") (codes "remove-default")
      ∷ both (codes "n") (codes "no-mask")
      ∷ by_name (codes "mask")
      ∷ both (codes "d") (codes "default")
      ∷ both (codes "R") (codes "recursive")
      ∷ by_name (codes "test") ∷ [];
  options = both (codes "m") (codes "modify")
      ∷ of_text (both (codes "M") (codes "modify-file"))
      ∷ both (codes "x") (codes "remove")
      ∷ of_text (both (codes "X") (codes "remove-file"))
      ∷ by_name (codes "set")
      ∷ of_text (by_name (codes "set-file"))
      ∷ of_text (by_name (codes "restore")) ∷ [];
  operands = any (codes "file") ∷ [];
}

-- the entries of an option: those of its word, or else those of the text, where the option for a file is given
abbrev pub entries_from : Option Text → Bool → Option EntrySource
entries_from (Some word) in_text = Some (InWord word)
entries_from None in_text = if in_text then Some InText else None

-- entries are removed or modified
abbrev pub changes_entries : Words → Bool
changes_entries w = has syntax w (codes "remove-all") refl || has syntax w (codes "remove-default") refl
    || gives syntax w (codes "modify") refl || gives syntax w (codes "modify-file") refl
    || gives syntax w (codes "remove") refl || gives syntax w (codes "remove-file") refl

-- whole lists are replaced
abbrev pub replaces_lists : Words → Bool
replaces_lists w = gives syntax w (codes "set") refl || gives syntax w (codes "set-file") refl

-- one thing is given in two ways
abbrev pub contradicts_itself : Words → Bool
contradicts_itself w = (gives syntax w (codes "modify") refl && gives syntax w (codes "modify-file") refl)
    || (gives syntax w (codes "remove") refl && gives syntax w (codes "remove-file") refl)
    || (gives syntax w (codes "set") refl && gives syntax w (codes "set-file") refl)
    || (has syntax w (codes "no-mask") refl && has syntax w (codes "mask") refl)

-- a flag determines how lists are changed
abbrev pub has_edit_flag : Words → Bool
has_edit_flag w = has syntax w (codes "no-mask") refl || has syntax w (codes "mask") refl
    || has syntax w (codes "default") refl || has syntax w (codes "recursive") refl

-- the flags that say how lists are changed
abbrev pub flags_of : Words → ChangeFlags
flags_of w = record {
  strip = has syntax w (codes "remove-all") refl;
  drop_default = has syntax w (codes "remove-default") refl;
  as_default = has syntax w (codes "default") refl;
  no_mask = has syntax w (codes "no-mask") refl;
  remask = has syntax w (codes "mask") refl;
}

-- the line that changes these files
abbrev pub change_of : Words → List Text → ChangeLine
change_of w files = record {
  flags = flags_of w;
  recursive = has syntax w (codes "recursive") refl;
  test = has syntax w (codes "test") refl;
  removed = entries_from (value syntax w (codes "remove") refl) (gives syntax w (codes "remove-file") refl);
  modified = entries_from (value syntax w (codes "modify") refl) (gives syntax w (codes "modify-file") refl);
  set = entries_from (value syntax w (codes "set") refl) (gives syntax w (codes "set-file") refl);
  files = files;
}

-- a dump is put back, with nothing else but `--test`
abbrev pub read_restore : Words → Option SetfaclLine
read_restore w =
    if changes_entries w || replaces_lists w || has_edit_flag w || not (is_empty (operands_from syntax w (codes "file") refl))
    then None else Some (Restore (has syntax w (codes "test") refl))

-- the entries of lists are changed, or whole lists replaced
abbrev pub read_change : Words → Option SetfaclLine
read_change w =
    if contradicts_itself w || beq (changes_entries w) (replaces_lists w)
    then None else option_map (λ files. Change (change_of w files)) (files_of (operands_from syntax w (codes "file") refl))

-- the line that words give, unless they are usage
abbrev pub read : Words → Option SetfaclLine
read w = if gives syntax w (codes "restore") refl then read_restore w else read_change w
