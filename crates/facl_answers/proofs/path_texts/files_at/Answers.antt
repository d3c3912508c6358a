use Rattle.std.proofs.Common.{◌≡◌, false, is_some, rules, ◌∙◌}
use Rattle.std.specs.FinMap.{find}
use Rattle.acl_names.specs.Paths.{path_cmp}
use Rattle.facl_answers.proofs.PathShown.{none_found}
use Rattle.facl_answers.proofs.path_texts.files_at.Goals as goal

pub returns-then-is_none : goal.returns-then-is_none
returns-then-is_none c =
    let none : is_some (find path_cmp c.args.path.now c.args.tree.now.files) ≡ false = search rules in
    c.new.ensures.items ∙ none_found c.args.tree.now.files c.args.path.now none
