-- What is true of attributes. Each is proved as a law of src/attr_laws.rt, whose comment has it in words.
use Rattle.std.specs.Prelude.{◌≡◌, ◌↔◌, ℕ, List, Ok, Err}
use Rattle.acl_entry.specs.Lists.{KeyMap}
use Rattle.acl_text.specs.declared.fault.FaultKind.TheVariants.{BadAttr}
use Rattle.acl_text.specs.declared.fault.TextFault.{TextFault}
use Rattle.acl_text.specs.Attr.{attr_of}
use Rattle.acl_text.specs.Encoded.{IsAttribute, IsFaultyAt}

abbrev pub AttributeEncodesItsEntries : Type 0
AttributeEncodesItsEntries = (bytes : List ℕ) (acl : KeyMap) → (attr_of bytes ≡ Ok acl) ↔ IsAttribute bytes acl

abbrev pub AttributeFaultIsFirst : Type 0
AttributeFaultIsFirst = (bytes : List ℕ) (fault : TextFault) → attr_of bytes ≡ Err fault → (fault.kind ≡ BadAttr) × IsFaultyAt bytes fault.at
