use Rattle.std.proofs.Common.{ap, ◌∙◌}
use Rattle.acl_tree.specs.Operands.{in_region, is_file}
use Rattle.acl_tree.specs.Found.{found_in}
use Rattle.acl_tree.proofs.Selected.{filter_alike}
use Rattle.acl_tree.proofs.selection.select.Goals as goal

pub returns : goal.returns
returns c =
    c.in_ok-files_in.ensures
    ∙ ap (found_in c.args.tree.now.files)
    (filter_alike (in_region c.in_ok-region.region) (is_file c.args.selection.now.recursive c.args.selection.now.operands.now) c.in_ok-region.ensures c.args.tree.now.files)
