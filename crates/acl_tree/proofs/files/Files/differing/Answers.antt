use Rattle.std.proofs.Common.{◌≡◌, sym, ap, subst, ◌∙◌}
use Rattle.acl_edit.specs.declared.node.Node.{Node}
use Rattle.kinds.specs.Kinds.{KindsOf}
use Rattle.kinds.specs.Numbered.{Numbers, Kept, entries_by, AreUsed}
use Rattle.kinds.proofs.Chosen.{entries_filter, used_filter}
use Rattle.acl_tree.specs.Files.{Files}
use Rattle.acl_tree.specs.Changed.{differing}
use Rattle.acl_tree.specs.Operands.{in_region, files_meant}
use Rattle.acl_tree.proofs.Changes.{differing_meant}
use Rattle.acl_tree.proofs.files.Files.differing.Goals as goal

pub invariant_of-result : goal.invariant_of-result
invariant_of-result c =
    let kept : Kept Node = c.files_by_path-files.result.now in
    let walk : c.walk.result.0 ≡ files_meant c.args.region.now.0 c.args.region.now.1 kept.1 = ap (λ (w : Numbers × Numbers). w.0) c.walk.ensures
    ∙ ap (λ (ns : Numbers). files_meant c.args.region.now.0 c.args.region.now.1 ns) c.numbers.ensures.all in
    subst (λ (k : KindsOf Node). AreUsed k c.walk.result.0) (sym c.kinds.ensures.all)
    (subst (λ (ns : Numbers). AreUsed kept.0 ns) (sym walk) (used_filter kept.0 (in_region c.args.region.now) kept.1 c.kinds.ensures.sound.used))

pub returns : goal.returns
returns c =
    let kept : Kept Node = c.files_by_path-files.result.now in
    let region = c.args.region.now in
    let t : Files = c.args.self.now.files in
    let walk : c.walk.result.0 ≡ files_meant region.0 region.1 kept.1 = ap (λ (w : Numbers × Numbers). w.0) c.walk.ensures
    ∙ ap (λ (ns : Numbers). files_meant region.0 region.1 ns) c.numbers.ensures.all in
    let meant : entries_by c.kinds.result.now c.walk.result.0 ≡ files_meant region.0 region.1 t =
    (λ i. entries_by (c.kinds.ensures.all i) (walk i))
    ∙ entries_filter kept.0 (in_region region) kept.1 c.kinds.ensures.sound.used
    ∙ ap (λ (es : Files). files_meant region.0 region.1 es) c.files_by_path-files.ensures.all
    in
    (λ i. differing c.args.by_label (c.finder.ensures i) (meant i))
    ∙ differing_meant c.args.by_label (in_region region) t c.args.other.now.files c.files_by_path-files.ensures.sound.order c.requires
