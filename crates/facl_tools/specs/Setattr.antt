-- setattr: an extended attribute of acl(5) is put into a file as a list.
use Rattle.std.specs.Prelude.{ℕ, List, [], ◌∷◌, false, drop, length, nat_eq, if◌then◌else◌, codes, refl, Option, Some, None, option_and_then, option_map, Result}
use Rattle.std.specs.List.{starts_with}
use Rattle.std.specs.Option.{option_or}
use Rattle.hex.specs.Hex.{decode_of}
use Rattle.acl_text.specs.Attr.{attr_of, bad_attr}
use Rattle.acl_edit.specs.declared.edit.Edit.{Edit}
use Rattle.acl_edit.specs.declared.edit.Edit.TheVariants.{Put}
use Rattle.acl_entry.specs.Lists.{KeyMap}
use Rattle.acl_text.specs.declared.fault.Which.{Which}
use Rattle.acl_text.specs.declared.fault.Which.TheVariants.{Access, Default}
use Rattle.acl_text.specs.Results.{◌>>=◌, map_err}
use Rattle.acl_tree.specs.State.{State}
use Rattle.facl_script.specs.Forms.{Text, files_of}
use Rattle.facl_script.specs.Syntax.{Syntax, one}
use Rattle.facl_script.specs.declared.tool_words.Words.{Words}
use Rattle.facl_output.specs.declared.fault.LineFault.{LineFault}
use Rattle.facl_output.specs.declared.fault.LineFault.TheVariants as faults
use Rattle.facl_output.specs.declared.fault.Source.TheVariants.{AttributeEntry}
use Rattle.facl_output.specs.Faults.{line_fault_of_text}
use Rattle.facl_tools.specs.Asked.{operand, operands_from}
use Rattle.facl_tools.specs.Edits.{edited}
use Rattle.facl_tools.specs.Replies.{Reply}
use Rattle.facl_tools.specs.declared.setattr.Attribute.{Attribute}
use Rattle.facl_tools.specs.declared.setattr.SetattrLine.{SetattrLine}

abbrev pub syntax : Syntax
syntax = record { flags = []; options = []; operands = one (codes "attribute") ∷ one (codes "file") ∷ [] }

-- what follows a beginning of a word
abbrev pub rest_of : Text → Text → Option Text
rest_of start word = if starts_with nat_eq word start then Some (drop (length start) word) else None

-- the hex digits of a word that begins in one of two ways
abbrev pub digits_of : Text → Text → Text → Option Text
digits_of lower upper word = option_or (rest_of lower word) (rest_of upper word)

abbrev pub attribute_with : Which → Text → Attribute
attribute_with which digits = record { which = which; digits = digits }

-- the list that an attribute's name means, and the hex digits of its bytes
abbrev pub attribute_of : Text → Option Attribute
attribute_of word =
    option_or (option_map (attribute_with Access) (digits_of (codes "system.posix_acl_access=0x") (codes "system.posix_acl_access=0X") word))
    (option_map (attribute_with Default) (digits_of (codes "system.posix_acl_default=0x") (codes "system.posix_acl_default=0X") word))

-- the line that words give, unless they are usage
abbrev pub read : Words → Option SetattrLine
read w =
    option_and_then
    (λ attribute. option_map (λ files. record { attribute = attribute; files = files }) (files_of (operands_from syntax w (codes "file") refl)))
    (attribute_of (operand syntax w (codes "attribute") refl))

-- text that is not hex digits is a bad attribute, at its start
abbrev pub bytes_of : Text → Result (List ℕ) LineFault
bytes_of digits = map_err (λ e. faults.Text AttributeEntry (bad_attr 0)) (decode_of digits)

abbrev pub list_of_digits : Text → Result KeyMap LineFault
list_of_digits digits = bytes_of digits >>= λ bytes. map_err (line_fault_of_text AttributeEntry) (attr_of bytes)

abbrev pub put_of : Which → KeyMap → Edit
put_of Access acl = Put (Some acl) None
put_of Default acl = Put None (Some acl)

-- the list of the attribute is put into the file
abbrev pub answered : State → SetattrLine → Result Reply LineFault
answered s line = list_of_digits line.attribute.digits >>= λ acl. edited s false (put_of line.attribute.which acl) line.files
