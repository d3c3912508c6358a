-- What changed from one list of files to another: where the check of access may answer otherwise.
use Rattle.std.specs.Prelude.{◌≡◌, List, [], ◌∷◌, Bool, true, false, ◌==◌, ◌&&◌, not, Option, Some, None, is_some, filter}
use Rattle.std.specs.Option.{option_map_or}
use Rattle.std.specs.FinMap.{find}
use Rattle.acl_entry.specs.Keys.{same_key}
use Rattle.acl_entry.specs.Perms.{number}
use Rattle.acl_entry.specs.Lists.{entries}
use Rattle.acl_entry.specs.declared.entry.Entry.{Entry}
use Rattle.acl_entry.specs.declared.label.Label.{Label}
use Rattle.acl_names.specs.Below.{encloses}
use Rattle.acl_names.specs.Paths.{path_cmp, PathOf}
use Rattle.acl_edit.specs.declared.node.Node.{Node}
use Rattle.acl_tree.specs.Files.{Files}

abbrev pub same_entry : Entry → Entry → Bool
same_entry a b = same_key a.key b.key && (number a.perm == number b.perm)

abbrev pub same_entries : List Entry → List Entry → Bool
same_entries [] [] = true
same_entries [] (b ∷ bs) = false
same_entries (a ∷ as') [] = false
same_entries (a ∷ as') (b ∷ bs) = same_entry a b && same_entries as' bs

-- whether owner, group and access list are the same
abbrev pub same_label : Label → Label → Bool
same_label a b = (a.owner == b.owner) && ((a.group == b.group) && same_entries (entries a.acl) (entries b.acl))

-- whether a file is new, or has another owner, group or access list than before
abbrev pub is_changed : Files → PathOf × Node → Bool
is_changed old e = option_map_or (λ n. not (same_label n.label e.1.label)) (find path_cmp e.0 old) true

-- the new files that are changed
abbrev pub changed_between : Files → Files → Files
changed_between old new = filter (is_changed old) new

-- the old files that are recorded no more
abbrev pub gone_between : Files → Files → Files
gone_between old new = filter (λ e. not (is_some (find path_cmp e.0 new))) old

-- ---- one state beside another

-- whether a file is another one than what the other state has at its path: it has none, or, where labels count, one of
-- another label
abbrev pub differs : Bool → Option Node → Node → Bool
differs by_label None n = true
differs by_label (Some m) n = by_label && not (same_label m.label n.label)

-- the files of a state that are others in the other one
abbrev pub differing : Bool → Files → Files → Files
differing by_label other es = filter (λ e. differs by_label (find path_cmp e.0 other) e.1) es

-- the entries that are neither at a path nor below it
abbrev pub outside : {V : Type 0} → PathOf → List (PathOf × V) → List (PathOf × V)
outside top es = filter (λ e. not (encloses top e.0)) es

-- the first of some files is taken, with all that are below it
pub record IsTop (top : PathOf × Node) (old new : Files) : Type 0 where
  pub more : Files
  pub first : old ≡ top ∷ more
  pub left : new ≡ outside top.0 more

-- two states have the same files, but where a test passes
abbrev pub SameBut : (PathOf → Bool) → Files → Files → Type 0
SameBut test old new = (p : PathOf) → test p ≡ false → find path_cmp p new ≡ find path_cmp p old

-- where that is known, no file of a state is gone in another one
abbrev pub NoneGoneIf : Bool → Files → Files → Type 0
NoneGoneIf known old new = known ≡ true → gone_between old new ≡ []
