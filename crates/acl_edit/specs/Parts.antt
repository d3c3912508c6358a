-- The entries that a line gives, each for one of the two lists: setfacl(1), "ACL entries".
use Rattle.std.specs.Prelude.{Bool, true, false, not, ◌||◌, List, [], ◌∷◌, filter, if◌then◌else◌}
use Rattle.std.specs.List.{list_any}
use Rattle.acl_entry.specs.declared.entry.Key.{Key}
use Rattle.acl_entry.specs.declared.entry.Key.TheVariants.{Owner, User, OwningGroup, Group, Mask, Other}
use Rattle.acl_text.specs.declared.entries.Spec.{Spec}
use Rattle.acl_text.specs.declared.fault.Which.{Which}
use Rattle.acl_text.specs.declared.fault.Which.TheVariants.{Access, Default}
use Rattle.acl_edit.specs.Changes.{Change}
use Rattle.acl_edit.specs.declared.change.Scope.{Scope}

-- the entry is for this list: under -d plain entries are default ones, and default ones are dropped
abbrev pub is_for : Bool → Which → Spec → Bool
is_for as_default Access s = not (as_default || s.dflt)
is_for as_default Default s = if as_default then not s.dflt else s.dflt

-- the entries that are for a list
abbrev pub specs_for : Scope → List Spec → List Spec
specs_for scope specs = filter (is_for scope.as_default scope.which) specs

-- what a line asks of one list
pub record Part : Type 0 where
  pub remove : List Spec
  pub set : List Spec
  pub modify : List Spec

abbrev pub part : Change → Which → Part
part c which = record {
  remove = filter (is_for c.as_default which) c.remove;
  set = filter (is_for c.as_default which) c.set;
  modify = filter (is_for c.as_default which) c.modify;
}

abbrev pub is_given : List Spec → Bool
is_given [] = false
is_given (s ∷ ss) = true

-- the line puts entries into the list
abbrev pub puts : Part → Bool
puts p = is_given p.set || is_given p.modify

-- the line names an entry of the list
abbrev pub names : Part → Bool
names p = is_given p.remove || puts p

abbrev pub is_mask : Key → Bool
is_mask Owner = false
is_mask (User id) = false
is_mask OwningGroup = false
is_mask (Group id) = false
is_mask Mask = true
is_mask Other = false

abbrev pub is_of_mask : Spec → Bool
is_of_mask s = is_mask s.key

-- the line gives the list a mask
abbrev pub gives_mask : Part → Bool
gives_mask p = list_any is_of_mask p.set || list_any is_of_mask p.modify
