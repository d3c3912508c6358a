use Rattle.std.proofs.Common.{◌≡◌, List, length, nat_lt, if◌then◌else◌, true, false, Ok, Err, arith, refl, sym, ap, subst, ◌∙◌, true≢false}
use Rattle.std.proofs.lemmas.Grind.{common_steps}
use Rattle.acl_text.specs.declared.record.DumpRecord.{DumpRecord}
use Rattle.acl_tree.specs.Files.{Files, Recorded, max_files}
use Rattle.acl_tree.specs.Loading.{files_of}
use Rattle.acl_tree.specs.declared.fault.TreeFault.TheVariants.{TooMany}
use Rattle.acl_tree.specs.Changed.{gone_between}
use Rattle.acl_tree.specs.Sound.{IsSoundTree}
use Rattle.acl_tree.specs.State.{State, state_from}
use Rattle.acl_tree.specs.Loads.{with_records}
use Rattle.acl_tree.proofs.Kept.{loaded_sound}
use Rattle.acl_tree.proofs.Reported.{reported_files}
use Rattle.acl_tree.proofs.dump.prepare_dump.Goals as goal

pub of-files-requires : goal.of-files-requires
of-files-requires c =
    subst (λ (files : Files). IsSoundTree (record { files = files; loaded = true })) (sym c.in_ok-files_of.ensures)
    (loaded_sound c.in-Ok.records.items (omega arith))

pub with_files-requires : goal.with_files-requires
with_files-requires c = λ p out. absurd (true≢false (sym (c.in_ok-touched.ensures p) ∙ out))

pub returns-clause-reports : goal.returns-clause-reports
returns-clause-reports c = λ none.
    let old : State = state_from c.args.state.now.tree.now c.args.state.now.people.now in
    let new : State = state_from c.of-files.result c.args.state.now.people.now in
    reported_files old new c.in_ok-staged.staged c.in_ok-staged.ensures.all refl (ap (λ es. gone_between es new.tree.files) none)

pub returns-clause-made : goal.returns-clause-made
returns-clause-made c =
    let old : State = state_from c.args.state.now.tree.now c.args.state.now.people.now in
    let records : List DumpRecord = c.in-Ok.records.items in
    let few : nat_lt max_files (length records) ≡ false = grind (arith, common_steps) in
    let tree : c.of-files.result ≡ record { files = files_of records; loaded = true } = c.of-files.ensures ∙ ap (λ (es : Files). record { files = es; loaded = true }) c.in_ok-files_of.ensures in
    ap (with_records old) c.in-Ok.ensures.made
    ∙ ap (λ b. if b then Err TooMany else Ok (record old { tree = record { files = files_of records; loaded = true } })) few
    ∙ ap (λ (t : Recorded). Ok (state_from t c.args.state.now.people.now)) (sym tree)
    ∙ ap (λ (s : State). Ok s) (sym (ap (λ s. s.state) c.in_ok-staged.ensures.all))
