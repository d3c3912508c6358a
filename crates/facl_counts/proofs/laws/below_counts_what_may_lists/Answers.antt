use Rattle.std.proofs.Common.{true, None, Some, ap, sym, ◌∙◌}
use Rattle.acl_entry.specs.Check.{has}
use Rattle.acl_names.specs.Names.{escaped}
use Rattle.acl_rights.specs.Verdicts.{granted}
use Rattle.acl_tree.specs.Found.{files_found}
use Rattle.acl_tree.specs.Operands.{is_file}
use Rattle.facl_counts.specs.BelowText.{below_line, granted_below, is_of_kind}
use Rattle.facl_counts.proofs.BelowLines.{both_filters, filter_both, no_line}
use Rattle.facl_counts.proofs.laws.below_counts_what_may_lists.Goals as goal

pub returns-clause-files : goal.returns-clause-files
returns-clause-files c = λ V along s q paths row. both_filters s.tree.files (is_file true paths) (λ e. has (granted V along s row e) q) s.tree.files

pub returns-clause-lines : goal.returns-clause-lines
returns-clause-lines c = λ V along s q paths row.
    let same = both_filters s.tree.files (is_file true paths) (λ e. has (granted V along s row e) q) s.tree.files in
    (λ none. sym same ∙ no_line (escaped row.name) (granted_below V along s q None paths row) none, λ none. ap (below_line (escaped row.name)) (same ∙ none))

pub returns-clause-kinds : goal.returns-clause-kinds
returns-clause-kinds c = λ V along s q kind paths row.
    filter_both (λ file. is_of_kind (Some kind) file.node) (λ file. has (granted V along s row (file.path, file.node)) q) (files_found true paths s.tree.files)
