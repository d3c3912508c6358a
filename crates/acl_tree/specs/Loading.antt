-- The records of a dump as files.
use Rattle.std.specs.Prelude.{List, [], ◌∷◌, length, fold, map, Bool, false, ◌||◌, ◌==◌, if◌then◌else◌, Option, Some, None, is_some, option_map, unwrap_or}
use Rattle.std.specs.List.{list_any}
use Rattle.std.specs.Option.{option_or}
use Rattle.std.specs.Ordering.{eq_by_cmp}
use Rattle.std.specs.FinMap.Entries.{by_order}
use Rattle.acl_names.specs.Paths.{path_cmp, PathOf}
use Rattle.acl_text.specs.declared.record.DumpRecord.{DumpRecord}
use Rattle.acl_edit.specs.declared.node.Node.{Node}
use Rattle.acl_edit.specs.declared.node.Kind.TheVariants.{Plain, Directory}
use Rattle.acl_tree.specs.Files.{Files}
use Rattle.acl_names.specs.Below.{is_above}

-- a record in its place in path order
abbrev pub insert_record : DumpRecord → List DumpRecord → List DumpRecord
insert_record r [] = r ∷ []
insert_record r (s ∷ rs) = by_order (path_cmp r.path s.path) (r ∷ s ∷ rs) (r ∷ rs) (s ∷ insert_record r rs)

-- the records in path order
abbrev pub in_path_order : List DumpRecord → List DumpRecord
in_path_order records = fold (λ sorted r. insert_record r sorted) [] records

-- a record is a directory if it is written with a final `/`, is the root, has default entries, or another
-- record lies below it
abbrev pub is_directory : Bool → DumpRecord → Bool
is_directory has_below r = r.slash || ((length r.path == 0) || (is_some r.dacl || has_below))

abbrev pub node_of : Bool → DumpRecord → Node
node_of has_below r =
    record {
      kind = if is_directory has_below r then Directory else Plain;
      label = record { owner = unwrap_or r.owner 0; group = unwrap_or r.group 0; acl = r.access };
      flags = unwrap_or r.flags (false ∷ false ∷ false ∷ []);
      dacl = r.dacl;
    }

-- whether one of the records lies below a path
abbrev pub has_below : List DumpRecord → PathOf → Bool
has_below records p = list_any (λ r. is_above p r.path) records

abbrev pub as_files : List DumpRecord → List DumpRecord → Files
as_files all records = map (λ r. (r.path, node_of (has_below all r.path) r)) records

-- the files of a dump's records, in path order
abbrev pub files_of : List DumpRecord → Files
files_of records = as_files (in_path_order records) (in_path_order records)

-- the record of a path: the last one, if it is repeated
abbrev pub record_at : PathOf → List DumpRecord → Option DumpRecord
record_at p [] = None
record_at p (r ∷ rs) = option_or (record_at p rs) (if eq_by_cmp path_cmp p r.path then Some r else None)

-- the file of a path, where a record has that path: what lies below it is found among all records
abbrev pub loaded_at : PathOf → List DumpRecord → Option Node
loaded_at p records = option_map (λ r. node_of (has_below records r.path) r) (record_at p records)
