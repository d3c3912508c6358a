-- The keys that a setfacl(1) line removes, by list, for the clauses of inner functions.
use Rattle.std.specs.Prelude.{List, Bool, not, ◌&&◌, if◌then◌else◌, fold, is_some}
use Rattle.std.specs.Bool.{beq}
use Rattle.std.specs.FinMap as maps
use Rattle.acl_entry.specs.Lists.{KeyMap}
use Rattle.acl_entry.specs.Perms.{none}
use Rattle.acl_text.specs.declared.entries.Spec.{Spec}
use Rattle.facl_tools.specs.declared.setfacl_entries.RemovedKeys.{RemovedKeys}

-- the keys of one list, once an entry is added
abbrev pub with_key : Bool → KeyMap → Spec → KeyMap
with_key dflt keys s = if beq dflt s.dflt then maps.insert keys s.key none else keys

abbrev pub keys_of : Bool → List Spec → KeyMap
keys_of dflt specs = fold (with_key dflt) maps.empty specs

-- the entry's key is removed from its list, and `-d` does not drop the entry
abbrev pub removes : Bool → RemovedKeys → Spec → Bool
removes as_default keys s = not (as_default && s.dflt) && is_some (maps.get (if s.dflt then keys.dflt else keys.access) s.key)
