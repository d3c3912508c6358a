-- The set of the paths that were read, as it is looked up.
use Rattle.std.specs.Prelude.{◌≡◌, ℕ, List, Bool, Option, Some, None, map}
use Rattle.std.specs.BTreeSet.{contains_by}
use Rattle.acl_names.specs.Paths.{path_cmp}
use Rattle.acl_text.specs.declared.record.DumpRecord.{DumpRecord}
use Rattle.acl_text.specs.declared.seen.Seen.{Seen}
use Rattle.acl_text.specs.Records.{is_repeated}

abbrev pub has_path : Seen → List (List ℕ) → Bool
has_path seen path = contains_by (λ k. path_cmp path (map (λ v. v.items) k.items)) seen.paths

-- the set, where there is one, has the paths of the records
abbrev pub SeenPathsAre : Option Seen → List DumpRecord → Type 0
SeenPathsAre None records = Unit {0}
SeenPathsAre (Some seen) records = (path : List (List ℕ)) → has_path seen path ≡ is_repeated records path
