-- What edits keep, in words of lists and modes.
use Rattle.std.specs.Prelude.{◌≡◌, ◌≢◌, ◌↔◌, Bool, true, false, not, List, [], ◌∷◌, Option, Some, None, is_some, option_and_then, option_map, Result, Ok, Err, IfOk, ◌&&◌, ◌||◌, if◌then◌else◌}
use Rattle.std.specs.Option.{ForSome}
use Rattle.std.specs.List.{list_any}
use Rattle.std.specs.FinMap as maps
use Rattle.acl_entry.specs.Perms.{Perms}
use Rattle.acl_entry.specs.Keys.{same_key, is_base, is_class}
use Rattle.acl_entry.specs.Lists.{KeyMap, IsValid, entries, fault, effective, class_union, or_else}
use Rattle.acl_entry.specs.declared.entry.ListFault.{ListFault}
use Rattle.acl_entry.specs.declared.entry.Key.{Key}
use Rattle.acl_entry.specs.declared.entry.Key.TheVariants.{OwningGroup, Mask}
use Rattle.acl_text.specs.declared.fault.Which.{Which}
use Rattle.acl_text.specs.declared.fault.Which.TheVariants.{Access, Default}
use Rattle.acl_edit.specs.Nodes.{is_directory}
use Rattle.acl_edit.specs.Parts.{Part, part, names, puts, is_given, is_mask, is_for}
use Rattle.acl_edit.specs.Steps.{perms_of, gives_execute}
use Rattle.acl_text.specs.declared.entries.Spec.{Spec}
use Rattle.acl_edit.specs.Masks.{has_named, is_recalculated}
use Rattle.acl_edit.specs.Edits.{edit}
use Rattle.acl_edit.specs.Changes.{Change, edit_of, options}
use Rattle.acl_edit.specs.declared.edit.Edit.{Edit}
use Rattle.acl_edit.specs.declared.edit.Edit.TheVariants as edits
use Rattle.acl_edit.specs.declared.edit.EditFault.{EditFault}
use Rattle.acl_edit.specs.declared.edit.EditFault.TheVariants.{DefaultOnFile, NoMemory, List as ListIs}
use Rattle.acl_edit.specs.declared.node.Kind.TheVariants.{Directory}
use Rattle.acl_edit.specs.declared.node.Node.{Node}

-- the mask takes nothing away: each entry grants what it has
abbrev pub HidesNothing : KeyMap → Type 0
HidesNothing m = (k : Key) → effective m k ≡ maps.get m k

-- the mask has no permission that no entry of the group class has
pub record GrantsNoMore (m : KeyMap) (mask : Perms) : Type 0 where
  pub read : mask.read ≡ true → list_any (λ e. is_class e.key && e.perm.read) (entries m) ≡ true
  pub write : mask.write ≡ true → list_any (λ e. is_class e.key && e.perm.write) (entries m) ≡ true
  pub execute : mask.execute ≡ true → list_any (λ e. is_class e.key && e.perm.execute) (entries m) ≡ true

-- so it is with the mask of the list, if it has one
abbrev pub MasksNoMore : KeyMap → Type 0
MasksNoMore m = ForSome (maps.get m Mask) (GrantsNoMore m)

-- the last entry for a key
abbrev pub last_for : Key → List Spec → Option Spec
last_for k [] = None
last_for k (s ∷ specs) = or_else (last_for k specs) (if same_key k s.key then Some s else None)

-- what the last entry for a key gives, where x is whether X gives execute
abbrev pub given : Bool → Key → List Spec → Option Perms
given x k specs = option_map (λ (s : Spec). perms_of x s.perm) (last_for k specs)

abbrev pub has_entry : Key → List Spec → Bool
has_entry k specs = list_any (λ s. same_key k s.key) specs

-- ---- a list key by key

-- what is at a key once the line has set the list, if it does, where had is what was there
abbrev pub set_at : Bool → Part → Key → Option Perms → Option Perms
set_at x p k had = if is_given p.set then given x k p.set else had

-- what the line's entries leave at a key: a modified key has what it is given, and a removed one is gone
abbrev pub left_at : Bool → Part → Key → Option Perms → Option Perms
left_at x p k had = or_else (given x k p.modify) (if has_entry k p.remove then None else set_at x p k had)

-- the line takes a mask out
abbrev pub loses_mask : Bool → Part → Option Perms → Bool
loses_mask x p had = is_some (set_at x p Mask had) && has_entry Mask p.remove

-- the mask that the line's entries leave, or one with the permissions of the owning group, where there are named entries and the line took
-- no mask out
abbrev pub mask_made : Bool → Part → Option Perms → KeyMap → Option Perms
mask_made x p had new =
    or_else (left_at x p Mask had) (if has_named new && not (loses_mask x p had) then maps.get new OwningGroup else None)

-- a mask that is recalculated is the union of the group class
abbrev pub mask_after : Bool → Change → Part → Option Perms → KeyMap → Option Perms
mask_after x c p had new =
    if is_recalculated c p then option_map (λ _. class_union new) (mask_made x p had new) else mask_made x p had new

-- what an access list has at a key before the line's entries: under -b a base entry has what it granted, and there is no other entry
abbrev pub had_access : Node → Change → Key → Option Perms
had_access old c k =
    if c.strip then (if is_base k then effective old.label.acl k else None) else maps.get old.label.acl k

-- what a file's default list has at a key, if there is one
abbrev pub default_at : Node → Key → Option Perms
default_at n k = option_and_then (λ d. maps.get d k) n.dacl

-- what a default list has at a key before the line's entries: under -b and -k nothing
abbrev pub had_default : Node → Change → Key → Option Perms
had_default old c k = if c.strip || c.drop_default then None else default_at old k

module _ (old : Node) (c : Change) (new : Node) where
  -- a list that the line neither strips nor drops, and of which it names no entry, stays
  pub record LeavesUnnamed : Type 0 where
    pub access : c.strip ≡ false → names (part c Access) ≡ false → new.label.acl ≡ old.label.acl
    pub dacl : (c.strip || c.drop_default) ≡ false → names (part c Default) ≡ false → new.dacl ≡ old.dacl

  -- where the mask of a list that the line names is recalculated, it hides nothing
  pub record ShowsRecalculated : Type 0 where
    pub access : names (part c Access) ≡ true → is_recalculated c (part c Access) ≡ true → HidesNothing new.label.acl
    pub dacl : new.kind ≡ Directory → names (part c Default) ≡ true → is_recalculated c (part c Default) ≡ true → ForSome new.dacl HidesNothing

  -- nor does it grant what no entry of the group class has
  pub record BoundsRecalculated : Type 0 where
    pub access : names (part c Access) ≡ true → is_recalculated c (part c Access) ≡ true → MasksNoMore new.label.acl
    pub dacl : new.kind ≡ Directory → names (part c Default) ≡ true → is_recalculated c (part c Default) ≡ true → ForSome new.dacl MasksNoMore

  -- -b leaves the base entries of an access list of which the line names no entry, with what they granted, and no other
  pub record KeepsGranted : Type 0 where
    pub base : c.strip ≡ true → names (part c Access) ≡ false → (k : Key) → is_base k ≡ true → maps.get new.label.acl k ≡ effective old.label.acl k
    pub others : c.strip ≡ true → names (part c Access) ≡ false → (k : Key) → is_base k ≡ false → maps.get new.label.acl k ≡ None

  -- a modified key has what the last entry for it gives, but a mask that is recalculated
  pub record GivesModified : Type 0 where
    pub access : (k : Key) (s : Spec) → last_for k (part c Access).modify ≡ Some s → (is_mask k && is_recalculated c (part c Access)) ≡ false
        → maps.get new.label.acl k ≡ Some (perms_of (gives_execute old) s.perm)
    pub dacl : new.kind ≡ Directory → (k : Key) (s : Spec) → last_for k (part c Default).modify ≡ Some s → (is_mask k && is_recalculated c (part c Default)) ≡ false
        → option_and_then (λ d. maps.get d k) new.dacl ≡ Some (perms_of (gives_execute old) s.perm)

  -- an access list that is neither stripped nor set goes key by key, but for the mask: a modified key has what it is given, a removed one
  -- is gone, and every other one is as it was
  pub record GoesByKey : Type 0 where
    pub access : c.strip ≡ false → is_given (part c Access).set ≡ false → (k : Key) → is_mask k ≡ false
        → maps.get new.label.acl k
        ≡ or_else (given (gives_execute old) k (part c Access).modify) (if has_entry k (part c Access).remove then None else maps.get old.label.acl k)

  -- each list goes key by key, but for the mask and for what is copied
  pub record LeavesByKey : Type 0 where
    pub access : (k : Key) → is_mask k ≡ false → maps.get new.label.acl k ≡ left_at (gives_execute old) (part c Access) k (had_access old c k)
    pub dacl : new.kind ≡ Directory → (k : Key) → is_mask k ≡ false → (puts (part c Default) && is_base k) ≡ false
        → default_at new k ≡ left_at (gives_execute old) (part c Default) k (had_default old c k)

  -- a default list into which the line puts entries gets each base entry that it lacks from the access list that the line leaves
  pub record CopiesBase : Type 0 where
    pub dacl : new.kind ≡ Directory → puts (part c Default) ≡ true → (k : Key) → is_base k ≡ true
        → default_at new k ≡ or_else (left_at (gives_execute old) (part c Default) k (had_default old c k)) (maps.get new.label.acl k)

  -- a list that the line names has this mask
  pub record MakesMask : Type 0 where
    pub access : names (part c Access) ≡ true
        → maps.get new.label.acl Mask ≡ mask_after (gives_execute old) c (part c Access) (had_access old c Mask) new.label.acl
    pub dacl : new.kind ≡ Directory → names (part c Default) ≡ true
        → ForSome new.dacl (λ d. maps.get d Mask ≡ mask_after (gives_execute old) c (part c Default) (had_default old c Mask) d)

  -- -b and -k leave no default list where the line names no entry of one
  pub record DropsDefault : Type 0 where
    pub dacl : (c.strip || c.drop_default) ≡ true → names (part c Default) ≡ false → new.dacl ≡ None

  -- the file that a line leaves: all of these
  pub record IsLeft : Type 0 where
    pub unnamed : LeavesUnnamed
    pub shown : ShowsRecalculated
    pub bounded : BoundsRecalculated
    pub granted : KeepsGranted
    pub modified : GivesModified
    pub by_key : GoesByKey
    pub every_key : LeavesByKey
    pub copied : CopiesBase
    pub masked : MakesMask
    pub dropped : DropsDefault

-- ---- why an edit is refused

-- the edit puts entries of a default list, or a whole one; a removed entry puts nothing
abbrev pub puts_default : Edit → Bool
puts_default (edits.Change strip drop_default as_default no_mask remask remove set modify) =
    list_any (is_for as_default Default) set || list_any (is_for as_default Default) modify
puts_default (edits.Put access dacl) = is_some dacl
puts_default (edits.Flatten access dacl) = false
puts_default (edits.Restore access dacl owner group flags) = is_some dacl

-- it puts them on a file that is not a directory, and not in a recursion
abbrev pub misplaces_default : Node → Edit → Bool → Bool
misplaces_default n e in_recursion = not (is_directory n.kind) && not in_recursion && puts_default e

-- the access list that a line leaves, key by key
pub record IsAccessLeft (old : Node) (c : Change) (m : KeyMap) : Type 0 where
  pub keys : (k : Key) → is_mask k ≡ false → maps.get m k ≡ left_at (gives_execute old) (part c Access) k (had_access old c k)
  pub mask : maps.get m Mask ≡ (if names (part c Access) then mask_after (gives_execute old) c (part c Access) (had_access old c Mask) m else had_access old c Mask)

-- what a line leaves at a key of a default list: where it puts entries, a base entry that they lack is that of the access list
abbrev pub default_left_at : Node → Change → KeyMap → Key → Option Perms
default_left_at old c access k =
    let left = left_at (gives_execute old) (part c Default) k (had_default old c k) in
    if puts (part c Default) && is_base k then or_else left (maps.get access k) else left

-- the default list that a line leaves beside an access list, key by key
pub record IsDefaultLeft (old : Node) (c : Change) (access : KeyMap) (m : KeyMap) : Type 0 where
  pub keys : (k : Key) → is_mask k ≡ false → maps.get m k ≡ default_left_at old c access k
  pub mask : maps.get m Mask ≡ (if names (part c Default) then mask_after (gives_execute old) c (part c Default) (had_default old c Mask) m else had_default old c Mask)

-- a directory's default list has this fault, where the access list has none; without entries there is no default list, and no fault
pub record IsDefaultFault (n : Node) (access : KeyMap) (dacl : KeyMap) (f : ListFault) : Type 0 where
  pub directory : n.kind ≡ Directory
  pub valid : IsValid access
  pub given : entries dacl ≢ []
  pub fault : fault (entries dacl) ≡ Some f

-- the lists that a line leaves, key by key; it is refused for the first fault of each where they have one, and for no other
pub record RefusesLists (n : Node) (c : Change) (in_recursion : Bool) : Type 0 where
  pub access : KeyMap
  pub dacl : KeyMap
  pub access_left : IsAccessLeft n c access
  pub dacl_left : IsDefaultLeft n c access dacl
  pub access_fault : (f : ListFault) → (edit n (edit_of c) in_recursion ≡ Err (ListIs Access f))
      ↔ ((misplaces_default n (edit_of c) in_recursion ≡ false) × (fault (entries access) ≡ Some f))
  pub dacl_fault : (f : ListFault) → (edit n (edit_of c) in_recursion ≡ Err (ListIs Default f)) ↔ IsDefaultFault n access dacl f

-- whole lists are lists already, so no edit that puts them is refused for their faults
abbrev pub RefusesNoList : Node → Edit → Bool → Type 0
RefusesNoList n (edits.Change strip drop_default as_default no_mask remask remove set modify) in_recursion = Unit {0}
RefusesNoList n (edits.Put access dacl) in_recursion = (which : Which) (f : ListFault) → edit n (edits.Put access dacl) in_recursion ≢ Err (ListIs which f)
RefusesNoList n (edits.Flatten access dacl) in_recursion = (which : Which) (f : ListFault) → edit n (edits.Flatten access dacl) in_recursion ≢ Err (ListIs which f)
RefusesNoList n (edits.Restore access dacl owner group flags) in_recursion =
    (which : Which) (f : ListFault) → edit n (edits.Restore access dacl owner group flags) in_recursion ≢ Err (ListIs which f)

-- a fact of the line that an edit is, if it is one
abbrev pub OfLine : Edit → (Change → Type 0) → Type 0
OfLine (edits.Change strip drop_default as_default no_mask remask remove set modify) P = P (options strip drop_default as_default no_mask remask remove set modify)
OfLine (edits.Put access dacl) P = Unit {0}
OfLine (edits.Flatten access dacl) P = Unit {0}
OfLine (edits.Restore access dacl owner group flags) P = Unit {0}

-- a fact of the file that a line leaves, where the edit is a line and is not refused
abbrev pub OnLine : (Node → Change → Node → Type 0) → Node → Edit → Result Node EditFault → Type 0
OnLine P old e result = IfOk result (λ new. OfLine e (λ c. P old c new))

-- the lists of a line are refused as it is said above
abbrev pub RefusesOfLine : Node → Edit → Bool → Type 0
RefusesOfLine n e in_recursion = OfLine e (λ c. RefusesLists n c in_recursion)

-- entries of a default list are refused where they are misplaced, and nowhere else
abbrev pub RefusesMisplaced : Node → Edit → Bool → Type 0
RefusesMisplaced n e in_recursion = (edit n e in_recursion ≡ Err DefaultOnFile) ↔ (misplaces_default n e in_recursion ≡ true)

-- running out of memory is not part of the definition
abbrev pub NeedsNoMemory : Node → Edit → Bool → Type 0
NeedsNoMemory n e in_recursion = edit n e in_recursion ≢ Err NoMemory

-- a law of every edit of every file, in a recursion or not
abbrev pub OfEach : (Node → Edit → Bool → Type 0) → Type 0
OfEach P = (n : Node) (e : Edit) (in_recursion : Bool) → P n e in_recursion

-- the edit makes each file of this one's kind this one
abbrev pub GivesBack : Node → Edit → Type 0
GivesBack m e = (n : Node) (in_recursion : Bool) → n.kind ≡ m.kind → edit n e in_recursion ≡ Ok m
