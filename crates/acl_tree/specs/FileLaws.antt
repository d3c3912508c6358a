-- What is true of these definitions. It is proved as a law of src/file_laws.rt, whose comment has it in words.
use Rattle.std.specs.Prelude.{◌≡◌, List}
use Rattle.std.specs.FinMap.{find}
use Rattle.acl_names.specs.Paths.{path_cmp, PathOf}
use Rattle.acl_text.specs.declared.record.DumpRecord.{DumpRecord}
use Rattle.acl_tree.specs.Loading.{files_of, loaded_at}

abbrev pub EachRecordIsAFile : Type 0
EachRecordIsAFile = (records : List DumpRecord) (p : PathOf) → find path_cmp p (files_of records) ≡ loaded_at p records
