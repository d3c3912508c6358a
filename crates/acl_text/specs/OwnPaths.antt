-- The paths of a dump's records: each names a file once (setfacl(1) --restore).
use Rattle.std.specs.Prelude.{List, [], ◌∷◌, Bool, true, not, ◌&&◌}
use Rattle.acl_text.specs.declared.record.DumpRecord.{DumpRecord}
use Rattle.acl_text.specs.Records.{is_repeated}

-- no two records have one path
abbrev pub have_own_paths : List DumpRecord → Bool
have_own_paths [] = true
have_own_paths (r ∷ rs) = not (is_repeated rs r.path) && have_own_paths rs
