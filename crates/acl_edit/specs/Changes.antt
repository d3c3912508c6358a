-- What a setfacl(1) line asks for: its options but -R, --restore and --test.
use Rattle.std.specs.Prelude.{Bool, List}
use Rattle.acl_text.specs.declared.entries.Spec.{Spec}
use Rattle.acl_edit.specs.declared.edit.Edit.{Edit}
use Rattle.acl_edit.specs.declared.edit.Edit.TheVariants as edits

-- -b, -k, -d, -n and --mask; the entries that are removed, that replace a list, and that are modified or added
pub record Change : Type 0 where
  pub strip : Bool
  pub drop_default : Bool
  pub as_default : Bool
  pub no_mask : Bool
  pub remask : Bool
  pub remove : List Spec
  pub set : List Spec
  pub modify : List Spec

-- these options
abbrev pub options : Bool → Bool → Bool → Bool → Bool → List Spec → List Spec → List Spec → Change
options strip drop_default as_default no_mask remask remove set modify = record {
  strip = strip;
  drop_default = drop_default;
  as_default = as_default;
  no_mask = no_mask;
  remask = remask;
  remove = remove;
  set = set;
  modify = modify;
}

-- the edit that a line is
abbrev pub edit_of : Change → Edit
edit_of c = edits.Change c.strip c.drop_default c.as_default c.no_mask c.remask c.remove c.set c.modify
