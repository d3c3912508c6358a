use Rattle.std.proofs.Common.{take, arith, sym, ap, subst, ◌∙◌}
use Rattle.std.proofs.lemmas.Grind.{common_steps}
use Rattle.acl_names.proofs.Appended.{still_begins}
use Rattle.facl_output.specs.declared.kept_texts.KeptTexts.{KeptTexts}
use Rattle.facl_output.specs.Listings.{is_listed, file_text, files_text}
use Rattle.facl_output.specs.AfterPaths.{after_path}
use Rattle.facl_output.specs.KeptTexts.{AreKept}
use Rattle.facl_output.proofs.Loops.{passed_added, other_left, all_passed}
use Rattle.facl_output.proofs.listing.push_files.Goals as goal
use Rattle.facl_output.proofs.listing.push_files.Goals.{then-is_listed+in_ok-push_file, else-is_listed}

pub returns-in_err-push_file : goal.returns-in_err-push_file
returns-in_err-push_file g c =
    let shown_text = files_text (g.N.Names.naming c.args.names.now) c.args.options.now (take c.loop-file.file-index c.args.files.now) in
    let begins = still_begins c.args.text.now.items shown_text c.loop-file.text.items c.push_file.new.text.items c.loop-file.invariant.text c.in_err-push_file.ensures.text in
    grind (arith, common_steps, begins)

pub loop-file-preserved : goal.loop-file-preserved
loop-file-preserved g c =
    let naming = g.N.Names.naming c.args.names.now in
    let options = c.args.options.now in
    let are_kept = λ (k : KeptTexts). AreKept (after_path naming options) k in
    let text_of = file_text naming options in
    let listed = is_listed options in
    let files = c.args.files.now in
    let start = c.args.text.now.items in
    let i = c.loop-file.file-index in
    let file = c.file-item.result in
    elim c.if-is_listed.branch [
      | then-is_listed+in_ok-push_file w ↦
          record {
            text = passed_added text_of files start listed i file file c.loop-file.text.items c.if-is_listed.text.items c.loop-file-test.true c.file-item.is
                (sym c.is_listed.ensures ∙ w.if-is_listed.true)
                c.loop-file.invariant.text (ap (λ t. t.items) w.text-is ∙ w.in_ok-push_file.ensures.text);
            kept = subst are_kept (sym w.kept-is) w.in_ok-push_file.ensures.kept;
          }
      | else-is_listed w ↦
          record {
            text = other_left text_of files start listed i file file c.loop-file.text.items c.if-is_listed.text.items c.loop-file-test.true c.file-item.is
                (sym c.is_listed.ensures ∙ w.if-is_listed.false)
                c.loop-file.invariant.text (ap (λ t. t.items) w.text-is);
            kept = subst are_kept (sym w.kept-is) c.loop-file.invariant.kept;
          }
    ]

pub returns : goal.returns
returns g c =
    all_passed (file_text (g.N.Names.naming c.args.names.now) c.args.options.now) c.args.files.now c.args.text.now.items (is_listed c.args.options.now) c.loop-file.file-index c.loop-file.text.items
    c.loop-file-test.false c.loop-file.invariant.text
