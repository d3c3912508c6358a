-- What `why` prints: the entries by which a judge decides on a user.
use Rattle.std.specs.Prelude.{◌≡◌, ℕ, Bool, true, if◌then◌else◌, List, [], ◌∷◌, ◌++◌, filter}
use Rattle.std.specs.List.{list_any, list_all, flat_map}
use Rattle.std.specs.Option.{option_map_or}
use Rattle.std.specs.Ordering.{eq_by_cmp}
use Rattle.std.specs.FinMap as maps
use Rattle.acl_entry.specs.Check.{has, is_for}
use Rattle.acl_entry.specs.Keys.{same_key, is_class}
use Rattle.acl_entry.specs.Lists.{KeyMap, entries, masked}
use Rattle.acl_entry.specs.Perms.{Perms, contains}
use Rattle.acl_entry.specs.Person.{Person}
use Rattle.acl_entry.specs.declared.entry.Entry.{Entry}
use Rattle.acl_entry.specs.declared.entry.Key.TheVariants.{Mask}
use Rattle.acl_entry.specs.declared.label.Label.{Label}
use Rattle.acl_names.specs.Paths.{path_cmp, PathOf}
use Rattle.acl_text.specs.Naming.{Naming}
use Rattle.acl_text.specs.declared.fault.Which.TheVariants.{Access}
use Rattle.acl_text.specs.DumpWriting.{file_text, entry_line}
use Rattle.acl_text.specs.declared.effective.Effective.TheVariants.{WhereMasked}
use Rattle.acl_edit.specs.declared.node.Node.{Node}
use Rattle.acl_names.specs.Below.{encloses}
use Rattle.acl_tree.specs.Files.{Files}
use Rattle.acl_tree.specs.Found.{FoundFile, found_in}
use Rattle.acl_rights.specs.Deciders.{Decider, Judging}
use Rattle.acl_rights.specs.Reach.{reach}
use Rattle.path_classes.specs.ReachedRows.{execute}
use Rattle.facl_output.specs.Listings.{has_slash}

-- whether an entry decides on a user: that of the judge's key, where there is one, or else one for the user's groups
abbrev pub decides : Decider → Person → Label → Entry → Bool
decides D u f e = option_map_or (λ k. same_key k e.key) (D u f) (is_for u f.group e)

-- the entries that decide on a user, in list order
abbrev pub deciding : Decider → Person → Label → List Entry
deciding D u f = filter (decides D u f) (entries f.acl)

-- ---- what is printed

-- whether a path is one of these, or with `along` above one of them too
abbrev pub is_asked : Bool → List PathOf → PathOf → Bool
is_asked along paths q = list_any (λ p. if along then encloses q p else eq_by_cmp path_cmp q p) paths

-- the files of these paths, and with `along` the recorded directories above them too: each once, in path order
abbrev pub files_asked : Bool → List PathOf → Files → List FoundFile
files_asked along paths t = found_in t (filter (λ e. is_asked along paths e.0) t)

module _ (naming : Naming) (D : Decider) where
  -- the lines of the entries that decide, as getfacl prints them without options
  abbrev pub deciding_text : Person → Label → List ℕ
  deciding_text u f = flat_map (entry_line naming WhereMasked Access (maps.get f.acl Mask)) (deciding D u f)

  -- a file: its path, the entries that decide, and an empty line
  abbrev pub why_record : Person → FoundFile → List ℕ
  why_record u file = file_text file.path (has_slash file) ++ (deciding_text u file.node.label ++ 10 ∷ [])

  -- the files one after another
  abbrev pub why_text : Person → List FoundFile → List ℕ
  why_text u files = flat_map (why_record u) files

-- ---- that these entries are the check

-- what an entry of a list grants, as it is listed: of the group class what the mask leaves
abbrev pub perms_listed : KeyMap → Entry → Perms
perms_listed acl e = if is_class e.key then masked acl e.perm else e.perm

-- some entry that decides contains a request
abbrev pub some_decides : Decider → Person → Label → Perms → Bool
some_decides D u f q = list_any (λ e. contains (perms_listed f.acl e) q) (deciding D u f)

-- what has to be contained in an entry of each file that is printed for a path: the request in one of the file's, and
-- search in one of each directory's
abbrev pub asked_of : PathOf → Perms → FoundFile → Perms
asked_of p q file = if eq_by_cmp path_cmp p file.path then q else execute

-- the request is granted along the path exactly if each file that is printed has such an entry
abbrev pub IsDecidedAlong : Judging → Person → Files → Perms → PathOf × Node → Type 0
IsDecidedAlong judge u t q e =
    has (reach judge.verdict t u e) q ≡ list_all (λ file. some_decides judge.decider u file.node.label (asked_of e.0 q file)) (files_asked true (e.0 ∷ []) t)
