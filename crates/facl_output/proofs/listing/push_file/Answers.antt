use Rattle.std.proofs.Common.{◌≡◌, ◌++◌, ℕ, List, length, take, drop, sym, ap, subst, ◌∙◌, arith}
use Rattle.std.proofs.lemmas.Grind.{common_steps}
use Rattle.facl_output.specs.Listings.{file_text}
use Rattle.facl_output.specs.AfterPaths.{path_line, after_path}
use Rattle.facl_output.proofs.AfterPaths.{record_parts, rest_added, still_starts}
use Rattle.facl_output.proofs.listing.push_file.Goals as goal

pub returns-in-Some : goal.returns-in-Some
returns-in-Some g c =
    let naming = g.N.Names.naming c.args.names.now in
    let options = c.args.options.now in
    let file = c.args.file.now in
    let old = c.args.text.now.items in
    let sought = c.seeks_next.ensures (after_path naming options) c.requires in
    let known = c.in-Some.ensures (after_path naming options) sought ∙ ap (after_path naming options) c.node-2.ensures in
    record {
      text = c.in_ok-push_known_record.ensures ∙ ap (λ l. old ++ (path_line options file ++ l)) known ∙ ap (λ l. old ++ l) (sym (record_parts naming options file));
      kept = c.note_found.ensures (after_path naming options) sought;
    }

pub returns-in_err-push_record-2-clause-text : goal.returns-in_err-push_record-2-clause-text
returns-in_err-push_record-2-clause-text g c =
    let new = c.push_record-2.new.text.items in
    let begins = subst (λ (l : List ℕ). take (length l) new ≡ l) c.in_ok-end.ensures.1 c.in_err-push_record-2.ensures in
    grind (arith, common_steps, begins)

pub returns-in_err-keep-clause-text : goal.returns-in_err-keep-clause-text
returns-in_err-keep-clause-text g c =
    let record_text = file_text (g.N.Names.naming c.args.names.now) c.args.options.now c.args.file.now in
    let begins = still_starts c.args.text.now.items c.end_of_path_line.new.text.items record_text c.push_record-2.new.text.items c.in_ok-end.ensures.1 c.in_ok-push_record-2.ensures in
    grind (arith, common_steps, begins)

pub returns : goal.returns
returns g c =
    let naming = g.N.Names.naming c.args.names.now in
    let options = c.args.options.now in
    let file = c.args.file.now in
    let old = c.args.text.now.items in
    let sought = c.seeks_next.ensures (after_path naming options) c.requires in
    let added = c.in_ok-push_record-2.ensures ∙ ap (λ l. l ++ file_text naming options file) c.in_ok-end.ensures.1 in
    let rest = rest_added old (path_line options file) (after_path naming options file.node) c.push_record-2.new.text.items c.in_ok-end.end c.in_ok-end.ensures.0
    (added ∙ ap (λ l. old ++ l) (record_parts naming options file)) in
    record {
      text = added;
      kept = c.in_ok-keep.ensures (after_path naming options) sought
          (ap (drop c.in_ok-end.end) c.as_slice.ensures.value ∙ (rest ∙ ap (after_path naming options) (sym c.node-3.ensures)));
    }
