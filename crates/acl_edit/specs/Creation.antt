-- What a new file gets of its directory: acl(5), "OBJECT CREATION AND DEFAULT ACLs".
use Rattle.std.specs.Prelude.{ℕ, ◌-◌, ◌&&◌, false, [], ◌∷◌, Option, Some, None, bit_and, if◌then◌else◌}
use Rattle.acl_entry.specs.Lists.{KeyMap, restrict, minimal}
use Rattle.acl_edit.specs.Nodes.{is_directory, setgid}
use Rattle.acl_edit.specs.declared.node.Kind.{Kind}
use Rattle.acl_edit.specs.declared.node.Node.{Node}

-- a mode without the bits of the umask
abbrev pub without : ℕ → ℕ → ℕ
without mode umask = bit_and mode (65535 - umask)

-- the directory's default list under the mode, and the umask has no effect; else a minimal list under the umask
abbrev pub inherited_access : Option KeyMap → ℕ → ℕ → KeyMap
inherited_access (Some d) mode umask = restrict d mode
inherited_access None mode umask = minimal (without mode umask)

-- a directory gets the default list of the directory that it is in
abbrev pub inherited_default : Option KeyMap → Kind → Option KeyMap
inherited_default dacl kind = if is_directory kind then dacl else None

-- a set group ID directory hands its group on, and to a directory the flag too
abbrev pub inherit : Node → Kind → ℕ → ℕ → ℕ → ℕ → Node
inherit parent kind mode umask owner group = record {
  kind = kind;
  label = record {
    owner = owner;
    group = if setgid parent.flags then parent.label.group else group;
    acl = inherited_access parent.dacl mode umask;
  };
  flags = false ∷ (setgid parent.flags && is_directory kind) ∷ false ∷ [];
  dacl = inherited_default parent.dacl kind;
}
