use Rattle.std.proofs.Common.{◌≡◌, ℕ, Bool, List, Option, is_some, Result, Ok, sym, ap, subst, ◌∙◌}
use Rattle.std.specs.Prelude.{if◌then◌else◌}
use Rattle.acl_text.specs.InTurn.{Gives}
use Rattle.acl_text.specs.Results.{◌>>=◌}
use Rattle.acl_text.specs.declared.fault.TextFault.{TextFault}
use Rattle.acl_text.specs.declared.line.LineKind.{LineKind}
use Rattle.acl_text.specs.declared.line.LineKind.TheVariants.{File}
use Rattle.acl_text.specs.declared.record.DumpUse.{DumpUse}
use Rattle.acl_text.specs.declared.record.DumpRecord.{DumpRecord}
use Rattle.acl_text.specs.declared.draft.RecordDraft.{RecordDraft}
use Rattle.acl_text.specs.Groups.{stepped}
use Rattle.acl_text.specs.Lines.{content_of, begins_record}
use Rattle.acl_text.specs.Records.{Numbered, begins, close, line_in}
use Rattle.acl_text.specs.Watched.{open_record, next_opened}
use Rattle.acl_text.proofs.dump.read_line.Goals as goal

-- a `file:` line closes the open record and opens the next one
file_begins : (watched : Bool) (more_lines : Option RecordDraft → Numbered → Result (Option RecordDraft) TextFault) (dump_use : DumpUse)
    (records : List DumpRecord) (draft : Option RecordDraft) (at : ℕ) (line : List ℕ) (content : LineKind × List ℕ) → content ≡ content_of line
    → content.0 ≡ File → next_opened watched dump_use records draft at content.1 ≡ stepped begins (open_record watched) more_lines (close dump_use) records draft (at, line)
file_begins watched more_lines dump_use records draft at line content same is =
    ap (λ (c : LineKind × List ℕ). next_opened watched dump_use records draft at c.1) same
    ∙ ap (λ (k : LineKind). if begins_record k then next_opened watched dump_use records draft at (content_of line).1
    else (more_lines draft (at, line) >>= (λ more. Ok (records, more)))) (sym is ∙ ap (λ (c : LineKind × List ℕ). c.0) same)

pub returns-in-File-clause-stepped : goal.returns-in-File-clause-stepped
returns-in-File-clause-stepped g c =
    let is = file_begins (is_some c.args.seen.now)
    (line_in (g.N.Names.naming c.args.reading.now.names.now)) c.args.reading.now.dump_use c.args.records.now.items c.args.draft.now c.args.line.0 c.args.line.1.now
    (c.content_of-kind.result.0, c.content_of-kind.result.1.now) c.content_of-kind.ensures c.in-File.is in
    subst (λ r. Gives (λ _. (c.begin_record.new.records.items, c.begin_record.new.draft)) c.begin_record.result r) is c.begin_record.ensures.next_opened
