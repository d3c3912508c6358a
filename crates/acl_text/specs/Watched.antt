-- A dump read line by line, where the paths of earlier records are watched or not. Only the clauses of inner functions name it.
use Rattle.std.specs.Prelude.{ℕ, List, [], ◌∷◌, Bool, ◌&&◌, if◌then◌else◌, Option, Some, None, Result, Ok, Err, ok_or}
use Rattle.acl_names.specs.Paths.{path_of}
use Rattle.acl_text.specs.Naming.{Naming}
use Rattle.acl_text.specs.declared.fault.FaultKind.{FaultKind}
use Rattle.acl_text.specs.declared.fault.FaultKind.TheVariants.{BadHeader, BadPath, RepeatedFile}
use Rattle.acl_text.specs.declared.fault.TextFault.{TextFault}
use Rattle.acl_text.specs.InTurn.{at_place}
use Rattle.acl_text.specs.Results.{◌>>=◌}
use Rattle.acl_text.specs.declared.record.DumpUse.{DumpUse}
use Rattle.acl_text.specs.declared.record.DumpRecord.{DumpRecord}
use Rattle.acl_text.specs.declared.draft.RecordDraft.{RecordDraft}
use Rattle.acl_text.specs.Groups.{streamed}
use Rattle.acl_text.specs.Lines.{content_of}
use Rattle.acl_text.specs.Records.{Numbered, is_repeated, ends_in_slash, begins, line_in, close}

-- a record that is opened by the value of its `file:` line; it may have the path of an earlier one where paths are not watched
abbrev pub opened_draft : Bool → List DumpRecord → ℕ → List ℕ → Result RecordDraft FaultKind
opened_draft watched records at [] = Err BadHeader
opened_draft watched records at (b ∷ bs) = do
  path ← ok_or (path_of (b ∷ bs)) BadPath
  if watched && is_repeated records path then Err RepeatedFile
      else Ok (record { at = at; path = path; slash = ends_in_slash (b ∷ bs); owner = None; group = None; flags = None; access = []; dacl = [] })

abbrev pub open_record : Bool → List DumpRecord → Numbered → Result (Option RecordDraft) TextFault
open_record watched records l = at_place l.0 (opened_draft watched records l.0 (content_of l.1).1) (λ draft. Ok (Some draft))

-- the open record is closed, and the next one is opened by the value of its `file:` line
abbrev pub next_opened : Bool → DumpUse → List DumpRecord → Option RecordDraft → ℕ → List ℕ → Result (List DumpRecord × Option RecordDraft) TextFault
next_opened watched dump_use records draft at value =
    close dump_use records draft >>= (λ more. at_place at (opened_draft watched more at value) (λ new. Ok (Some new)) >>= (λ new. Ok (more, new)))

abbrev pub stream : Naming → Bool → DumpUse → List DumpRecord → Option RecordDraft → List Numbered → Result (List DumpRecord) TextFault
stream naming watched dump_use records draft lines = streamed begins (open_record watched) (line_in naming) (close dump_use) records draft lines
