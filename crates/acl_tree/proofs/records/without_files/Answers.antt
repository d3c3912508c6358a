use Rattle.std.proofs.Common.{◌≡◌, map, sym, ap, subst, ◌∙◌}
use Rattle.std.proofs.lemmas.Result.{IfOk-weaker}
use Rattle.acl_edit.specs.declared.node.Node.{Node}
use Rattle.path_map.specs.Entries.{seen, IsInOrder}
use Rattle.path_map.specs.Merged.{without_all}
use Rattle.kinds.specs.Numbered.{Numbers, Kept, entries_in}
use Rattle.kinds.proofs.Chosen.{in_order-filter, in_order_by}
use Rattle.acl_tree.specs.Operands.{in_region, files_meant}
use Rattle.acl_tree.proofs.Without.{left_by}
use Rattle.acl_tree.proofs.records.without_files.Goals as goal

pub without_all-requires : goal.without_all-requires
without_all-requires c =
    let kept : Kept Node = c.args.files.now in
    let region = c.args.region.now in
    let gone : map seen c.deref.result.now ≡ files_meant region.0 region.1 kept.1 = ap (λ l. map seen l) c.deref.ensures.value ∙ c.in_ok-entries.ensures
    ∙ ap (λ (ns : Numbers). files_meant region.0 region.1 ns) c.numbers.ensures.all in
    subst (λ (ns : Numbers). IsInOrder ns) (sym gone) (in_order-filter (in_region region) kept.1 c.numbers.ensures.sound.order)

pub returns : goal.returns
returns c =
    let kept : Kept Node = c.args.files.now in
    let region = c.args.region.now in
    let sound = c.numbers.ensures.sound in
    let gone : map seen c.deref.result.now ≡ files_meant region.0 region.1 kept.1 = ap (λ l. map seen l) c.deref.ensures.value ∙ c.in_ok-entries.ensures
    ∙ ap (λ (ns : Numbers). files_meant region.0 region.1 ns) c.numbers.ensures.all in
    IfOk-weaker c.without_all.result _ _ (λ new made. made
    ∙ ap (λ (ns : Numbers). without_all ns (entries_in kept)) gone
    ∙ left_by kept.0 (in_region region) kept.1 sound.used (in_order_by kept.0 kept.1 sound.used sound.order)) c.without_all.ensures
