use Rattle.std.proofs.Common.{◌++◌, ap, sym, ◌∙◌}
use Rattle.std.proofs.lemmas.Bool.{ltb-false, ltb-true}
use Rattle.std.proofs.lemmas.Result.{on_ok_weaker}
use Rattle.facl_counts.specs.Sums.{folder_sum, sum_of}
use Rattle.facl_counts.proofs.FolderLines.{no_name_at, no_sum_at, sum_at}
use Rattle.facl_counts.proofs.folders.push_one_user.Goals as goal

pub returns-in_default : goal.returns-in_default
returns-in_default c =
    no_sum_at c.args.text.now.items c.args.folder.now (λ n. n.items) c.args.names.now c.args.sums.now c.args.user (sym c.in_default.ensures)

pub returns-in-Some-get : goal.returns-in-Some-get
returns-in-Some-get c =
    let text = c.args.text.now.items in
    let folder = c.args.folder.now in
    let sum = sum_of c.in-Some.sum in
    let name = c.in-Some-get.name.now in
    let looked = c.in-Some-get.ensures.lookup in
    on_ok_weaker c.push_folder_sum.result
    (λ wrote. wrote ∙ ap (λ n. text ++ folder_sum folder n sum) c.deref.ensures.value
    ∙ sum_at text folder (λ n. n.items) c.args.names.now c.args.sums.now c.args.user name name sum (ltb-true _ _ (sym looked.0)) looked.1 (sym c.in-Some.ensures))
    c.push_folder_sum.ensures

pub returns-in-None : goal.returns-in-None
returns-in-None c =
    no_name_at c.args.text.now.items c.args.folder.now (λ n. n.items) c.args.names.now c.args.sums.now c.args.user (ltb-false _ _ (sym c.in-None.ensures.lookup.0))
