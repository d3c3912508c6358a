use Rattle.std.proofs.Common.{◌≡◌, sym, ap, subst, ◌∙◌}
use Rattle.std.proofs.lemmas.Result.{IfOk-weaker}
use Rattle.acl_tree.specs.Files.{Files}
use Rattle.path_map.specs.Entries.{IsInOrder}
use Rattle.acl_tree.specs.Inner.{files_from}
use Rattle.acl_tree.specs.Loading.{files_of}
use Rattle.acl_tree.proofs.Loaded.{files_are, files_in_order}
use Rattle.acl_tree.proofs.records.files_of.Goals as goal

pub map_of-requires : goal.map_of-requires
map_of-requires c =
    let files : files_from c.in_path_order.result.items ≡ files_of c.args.records.items = ap (λ rs. files_from rs) c.in_path_order.ensures ∙ files_are c.args.records.items in
    subst (λ (es : Files). IsInOrder es) (sym files) (files_in_order c.args.records.items)

pub returns : goal.returns
returns c =
    IfOk-weaker c.map_of.result _ _ (λ new made. made
    ∙ ap (λ rs. files_from rs) c.in_path_order.ensures
    ∙ files_are c.args.records.items) c.map_of.ensures
