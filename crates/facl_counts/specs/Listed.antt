-- For inner functions of `below --list`: which of some files are listed.
use Rattle.std.specs.Prelude.{◌≡◌, ◌&&◌, Bool, false, List, ◌++◌, filter, map, take, slice_get}
use Rattle.std.specs.Option.{option_map_or}
use Rattle.acl_entry.specs.Check.{has}
use Rattle.acl_tree.specs.Files.{Files}
use Rattle.acl_tree.specs.Found.{FoundFile, found_in}
use Rattle.acl_tree.specs.State.{State}
use Rattle.path_classes.specs.Rows.{grants}
use Rattle.acl_rights.specs.Rows.{Verdict}
use Rattle.acl_rights.specs.Verdicts.{granted}
use Rattle.facl_answers.specs.BothStates.{front}
use Rattle.facl_answers.specs.Inner.{RowedFile, rowed_files}
use Rattle.acl_names.specs.Paths.{PathOf}
use Rattle.facl_counts.specs.BelowText.{is_of_kind}
use Rattle.facl_counts.specs.declared.listed.Listing.{Listing}
use Rattle.facl_counts.specs.declared.listed.ListedWalk.{ListedWalk}

-- whether a file with a row counts for the user of a listing
abbrev pub is_listed : Listing → RowedFile → Bool
is_listed l file = is_of_kind l.asked.kind file.0.node && grants l.asked.request l.user file.1

-- those of some files that do
abbrev pub listed_of : Listing → List RowedFile → List FoundFile
listed_of l files = map (λ file. file.0) (filter (is_listed l) files)

-- the files of a walk at or below a path, as long as they come first
abbrev pub left_within : PathOf → ListedWalk → List RowedFile
left_within top walk = rowed_files walk.files (front top walk.classes.1)

-- those of some files of a state that are listed
abbrev pub listed_in : Verdict → Bool → State → Listing → Files → List FoundFile
listed_in V along s l es =
    filter (λ file. is_of_kind l.asked.kind file.node
    && option_map_or (λ row. has (granted V along s row (file.path, file.node)) l.asked.request) (slice_get s.people.users l.user) false) (found_in s.tree.files es)

-- files are added to those so far, up to `l.most` in all
abbrev pub AddsListed : Listing → (old new more : List FoundFile) → Type 0
AddsListed l old new more = (seen : List FoundFile) → old ≡ take l.most seen → new ≡ take l.most (seen ++ more)

-- after some of the files of a walk, those that are listed are added; the others are left
pub record IsListing (l : Listing) (start now : List FoundFile) (all left : List RowedFile) : Type 0 where
  pub more : List FoundFile
  pub whole : more ++ listed_of l left ≡ listed_of l all
  pub adds : AddsListed l start now more
