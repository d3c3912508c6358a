-- The steps of a setfacl(1) line on one list.
use Rattle.std.specs.Prelude.{Bool, true, false, not, ◌&&◌, ◌||◌, List, [], ◌∷◌, Option, Some, None, fold, if◌then◌else◌}
use Rattle.std.specs.List.{list_any}
use Rattle.std.specs.FinMap as maps
use Rattle.acl_entry.specs.Perms as perms
use Rattle.acl_entry.specs.Perms.{Perms}
use Rattle.acl_entry.specs.Lists.{KeyMap, entries, effective}
use Rattle.acl_entry.specs.declared.entry.Key.{Key}
use Rattle.acl_entry.specs.declared.entry.Key.TheVariants.{Owner, OwningGroup, Other}
use Rattle.acl_entry.specs.declared.entry.Entry.{Entry}
use Rattle.acl_text.specs.declared.entries.PermSpec.{PermSpec}
use Rattle.acl_text.specs.declared.entries.Spec.{Spec}
use Rattle.acl_edit.specs.Nodes.{is_directory}
use Rattle.acl_edit.specs.Parts.{is_mask}
use Rattle.acl_edit.specs.declared.node.Node.{Node}

-- ---- what an entry gives

abbrev pub execute : Perms
execute = record { read = false; write = false; execute = true }

-- the entry, which is not the mask, has execute
abbrev pub may_execute : Entry → Bool
may_execute e = not (is_mask e.key) && e.perm.execute

-- X gives execute to a directory, and where someone may execute the file already
abbrev pub gives_execute : Node → Bool
gives_execute n = is_directory n.kind || list_any may_execute (entries n.label.acl)

-- what an entry gives, where x is whether X gives execute; one without permissions gives no permission
abbrev pub perms_of : Bool → Option PermSpec → Perms
perms_of x None = perms.none
perms_of x (Some p) = if x && p.cond_x then perms.union p.fixed execute else p.fixed

-- ---- steps

abbrev pub base_keys : List Key
base_keys = Owner ∷ OwningGroup ∷ Other ∷ []

-- an entry is put, if there is one
abbrev pub put_some : KeyMap → Key → Option Perms → KeyMap
put_some m k None = m
put_some m k (Some s) = maps.insert m k s

-- -b: the base entries alone, with what they grant
abbrev pub strip : KeyMap → KeyMap
strip m = fold (λ kept k. put_some kept k (effective m k)) maps.empty base_keys

-- the keys are taken out
abbrev pub remove : List Spec → KeyMap → KeyMap
remove specs m = fold (λ kept s. maps.remove kept s.key) m specs

-- the entries are put, the later ones over the earlier ones
abbrev pub modify : Bool → List Spec → KeyMap → KeyMap
modify x specs m = fold (λ put s. maps.insert put s.key (perms_of x s.perm)) m specs

-- the entries replace the list, if there are any
abbrev pub replace : Bool → List Spec → KeyMap → KeyMap
replace x [] m = m
replace x (s ∷ specs) m = modify x (s ∷ specs) maps.empty

-- an entry that a list lacks is copied from another
abbrev pub fill_one : KeyMap → KeyMap → Key → KeyMap
fill_one other m k = if maps.contains_key m k then m else put_some m k (maps.get other k)

-- the base entries that a list lacks are copied from another
abbrev pub fill_from : KeyMap → KeyMap → KeyMap
fill_from other m = fold (fill_one other) m base_keys
