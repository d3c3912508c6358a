use Rattle.std.proofs.Common.{List, ℕ, [], map, subst, ap, ◌∙◌}
use Rattle.std.specs.Prelude.{unwrap_or}
use Rattle.acl_names.specs.Appends.{Appends}
use Rattle.acl_tree.specs.Found.{FoundFile}
use Rattle.facl_output.specs.Listings.{path_shown}
use Rattle.facl_answers.specs.Inner.{row_lines}
use Rattle.facl_answers.proofs.index.push_file.Goals as goal

pub returns : goal.returns
returns c =
    let path = c.deref.ensures.value ∙ c.in_ok-path.ensures ∙ ap (λ (file : FoundFile). path_shown file) c.found-found.ensures in
    let row = c.row_or_none.ensures ∙ ap (λ o. unwrap_or o []) c.in_ok-row.ensures in
    subst (λ (lines : List ℕ). Appends c.push_row.result c.args.text.now c.push_row.new.text lines) (λ i. row_lines (path i) (map (λ n. n.items) c.args.names.now) (row i)) c.push_row.ensures
