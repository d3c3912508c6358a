-- What an edit makes of one file.
use Rattle.std.specs.Prelude.{ℕ, ◌==◌, Bool, true, false, not, ◌&&◌, ◌||◌, List, [], ◌∷◌, length, Option, Some, None, Result, Ok, Err, unwrap_or, if◌then◌else◌}
use Rattle.std.specs.Option.{option_map_or}
use Rattle.std.specs.FinMap as maps
use Rattle.acl_entry.specs.Lists.{KeyMap, entries, fault, minimal, mode, or_else}
use Rattle.acl_text.specs.declared.fault.Which.{Which}
use Rattle.acl_text.specs.declared.fault.Which.TheVariants.{Access, Default}
use Rattle.acl_text.specs.InTurn.{GivesUnless}
use Rattle.acl_text.specs.Results.{◌>>=◌}
use Rattle.acl_edit.specs.Nodes.{is_directory, with_lists}
use Rattle.acl_edit.specs.Parts.{Part, part, puts, names}
use Rattle.acl_edit.specs.Steps.{gives_execute, strip, remove, modify, replace, fill_from}
use Rattle.acl_edit.specs.Masks.{takes_mask, with_mask}
use Rattle.acl_edit.specs.Changes.{Change, options}
use Rattle.acl_edit.specs.declared.edit.Edit.{Edit}
use Rattle.acl_edit.specs.declared.edit.Edit.TheVariants as edits
use Rattle.acl_edit.specs.declared.edit.EditFault.{EditFault}
use Rattle.acl_edit.specs.declared.edit.EditFault.TheVariants.{DefaultOnFile, NoMemory, List as ListIs}
use Rattle.acl_edit.specs.declared.node.Kind.{Kind}
use Rattle.acl_edit.specs.declared.node.Kind.TheVariants.{Plain, Directory}
use Rattle.acl_edit.specs.declared.node.Node.{Node}

-- a call gives the value, seen by view, or exactly its fault, unless memory ran out
abbrev pub Gives : {X Y : Type 0} → (X → Y) → Result X EditFault → Result Y EditFault → Type 0
Gives view result is = GivesUnless NoMemory view result is

-- ---- a line of setfacl

-- replaced, then removed, then modified
unfoldable pub worked : Bool → Part → KeyMap → KeyMap
worked x p m = modify x p.modify (remove p.remove (replace x p.set m))

-- an access list after the line; one of which it names no entry stays
unfoldable pub access_after : Change → Bool → KeyMap → KeyMap
access_after c x m =
    let p = part c Access in
    if names p then with_mask c p (takes_mask p (replace x p.set m)) (worked x p m) else m

-- a default list after the line, which takes the base entries that it lacks from the access list
unfoldable pub default_after : Change → Bool → KeyMap → KeyMap → KeyMap
default_after c x acl m =
    let p = part c Default in
    let filled = if puts p then fill_from acl (worked x p m) else worked x p m in
    if names p then with_mask c p (takes_mask p (replace x p.set m)) filled else m

-- the entries as a list, if they are one
abbrev pub checked : Which → KeyMap → Result KeyMap EditFault
checked which m = option_map_or (λ f. Err (ListIs which f)) (fault (entries m)) (Ok m)

-- a default list without entries is no list
abbrev pub checked_default : KeyMap → Result (Option KeyMap) EditFault
checked_default m = if length (entries m) == 0 then Ok None else (checked Default m >>= λ d. Ok (Some d))

-- the access list that the steps begin with
abbrev pub access_before : Change → KeyMap → KeyMap
access_before c m = if c.strip then strip m else m

-- the default list that the steps begin with
abbrev pub default_before : Change → Option KeyMap → KeyMap
default_before c o = if c.strip || c.drop_default then maps.empty else unwrap_or o maps.empty

-- -b and -k remove the default list
abbrev pub kept_default : Change → Option KeyMap → Option KeyMap
kept_default c o = if c.strip || c.drop_default then None else o

abbrev pub changed_access : Node → Change → Result KeyMap EditFault
changed_access n c = checked Access (access_after c (gives_execute n) (access_before c n.label.acl))

-- only directories have default lists: entries for one skip every other file, and -b and -k remove the default list
abbrev pub changed_default : Kind → Node → Change → KeyMap → Result (Option KeyMap) EditFault
changed_default Plain n c acl = Ok (kept_default c n.dacl)
changed_default Directory n c acl = checked_default (default_after c (gives_execute n) acl (default_before c n.dacl))

-- default entries for a file that is not a directory are refused, and skipped in a recursion
abbrev pub is_misplaced : Node → Change → Bool → Bool
is_misplaced n c in_recursion = not (is_directory n.kind) && not in_recursion && puts (part c Default)

unfoldable pub change : Node → Change → Bool → Result Node EditFault
change n c in_recursion =
    if is_misplaced n c in_recursion then Err DefaultOnFile
    else (changed_access n c >>= λ acl. changed_default n.kind n c acl >>= λ dacl. Ok (with_lists n acl dacl))

-- ---- whole lists

-- a default list that is given; for a file that is not a directory it is refused, and skipped in a recursion
abbrev pub allowed : Kind → Bool → Option KeyMap → Result (Option KeyMap) EditFault
allowed Directory in_recursion o = Ok o
allowed Plain in_recursion None = Ok None
allowed Plain false (Some d) = Err DefaultOnFile
allowed Plain true (Some d) = Ok None

-- each list that is given replaces the file's
unfoldable pub put : Node → Option KeyMap → Option KeyMap → Bool → Result Node EditFault
put n access dacl in_recursion =
    allowed n.kind in_recursion dacl >>= λ d. Ok (with_lists n (unwrap_or access n.label.acl) (or_else d n.dacl))

-- the minimal list of the mode, and no default list
unfoldable pub flatten : Node → Bool → Bool → Node
flatten n access dacl =
    with_lists n (if access then minimal (mode n.label.acl) else n.label.acl) (if dacl then None else n.dacl)

abbrev pub no_flags : List Bool
no_flags = false ∷ false ∷ false ∷ []

-- the lists are put and the flags set; owner and group stay where nobody is named
unfoldable pub restore : Node → KeyMap → Option KeyMap → Option ℕ → Option ℕ → Option (List Bool) → Bool → Result Node EditFault
restore n access dacl owner group flags in_recursion =
    allowed n.kind in_recursion dacl >>= λ d. Ok (record {
      kind = n.kind;
      label = record { owner = unwrap_or owner n.label.owner; group = unwrap_or group n.label.group; acl = access };
      flags = unwrap_or flags no_flags;
      dacl = d;
    })

-- what the edit makes of a file, or why it is refused
abbrev pub edit : Node → Edit → Bool → Result Node EditFault
edit n (edits.Change strip drop_default as_default no_mask remask remove set modify) in_recursion =
    change n (options strip drop_default as_default no_mask remask remove set modify) in_recursion
edit n (edits.Put access dacl) in_recursion = put n access dacl in_recursion
edit n (edits.Flatten access dacl) in_recursion = Ok (flatten n access dacl)
edit n (edits.Restore access dacl owner group flags) in_recursion = restore n access dacl owner group flags in_recursion
