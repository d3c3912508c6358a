-- One file as lists and modes see it, and what chmod(1) makes of it.
use Rattle.std.specs.Prelude.{◌≡◌, ℕ, ◌==◌, ◌||◌, Bool, true, false, List, [], ◌∷◌, Option, None, slice_index_or}
use Rattle.std.specs.Int.{bit_at}
use Rattle.std.specs.Option.{ForSome}
use Rattle.acl_entry.specs.Lists as lists
use Rattle.acl_entry.specs.Lists.{KeyMap, IsValid}
use Rattle.acl_edit.specs.declared.node.Kind.{Kind}
use Rattle.acl_edit.specs.declared.node.Kind.TheVariants.{Plain, Directory}
use Rattle.acl_edit.specs.declared.node.Node.{Node}

abbrev pub is_directory : Kind → Bool
is_directory Plain = false
is_directory Directory = true

-- only directories have default lists
abbrev pub IsSound : Node → Type 0
IsSound n = n.kind ≡ Plain → n.dacl ≡ None

-- both lists are valid ones
pub record HasValidLists (n : Node) : Type 0 where
  pub access : IsValid n.label.acl
  pub dacl : ForSome n.dacl IsValid

abbrev pub with_lists : Node → KeyMap → Option KeyMap → Node
with_lists n acl dacl = record n { label = record n.label { acl = acl }; dacl = dacl }

-- ---- flags

abbrev pub setuid : List Bool → Bool
setuid flags = slice_index_or flags 0 false

abbrev pub setgid : List Bool → Bool
setgid flags = slice_index_or flags 1 false

-- whether bit i of a mode is set: the sticky bit is 9, setgid 10 and setuid 11
abbrev pub has_bit : ℕ → ℕ → Bool
has_bit mode i = bit_at mode i == 1

-- the flags after chmod: a directory keeps setuid and setgid
abbrev pub chmod_flags : Kind → List Bool → ℕ → List Bool
chmod_flags Plain flags mode = has_bit mode 11 ∷ has_bit mode 10 ∷ has_bit mode 9 ∷ []
chmod_flags Directory flags mode =
    (setuid flags || has_bit mode 11) ∷ (setgid flags || has_bit mode 10) ∷ has_bit mode 9 ∷ []

-- ---- chmod

-- the mode entries and the flags become the digits of the mode
abbrev pub chmod : Node → ℕ → Node
chmod n mode =
    record n { label = record n.label { acl = lists.chmod n.label.acl mode }; flags = chmod_flags n.kind n.flags mode }
