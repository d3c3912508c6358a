use Rattle.std.proofs.Common.{[], ◌∷◌, map, ap, subst, sym, ◌∙◌}
use Rattle.acl_names.specs.Paths.{PathOf}
use Rattle.path_classes.specs.ClassesWithin.{AreTops, is_inside, paths_seen}
use Rattle.std.proofs.lemmas.List.{take_all}
use Rattle.path_map.specs.Entries.{IsInOrder, seen}
use Rattle.path_classes.specs.Tops.{is_in_two}
use Rattle.acl_rights.proofs.Outside.{alone, copied_tops, copied_covers, tops_order, one_covered}
use Rattle.acl_rights.proofs.changed_part.with_top.Goals as goal

pub tops_of-requires-clause-changed : goal.tops_of-requires-clause-changed
tops_of-requires-clause-changed c =
    let all = ap (map seen) c.deref.ensures.value ∙ c.loop-path.invariant ∙ ap (map alone) (take_all c.loop-path.path-index c.args.tops.now c.loop-path-test.false) in
    subst IsInOrder (sym all) (tops_order c.args.tops.now c.requires)

pub returns-clause-tops : goal.returns-clause-tops
returns-clause-tops c = copied_tops c.copied.result c.deref-2.result.now (subst AreTops (ap paths_seen (sym c.deref-2.ensures.value)) c.in_ok-new.ensures.tops) c.copied.ensures

pub returns-clause-covers : goal.returns-clause-covers
returns-clause-covers c =
    let all = ap (map seen) c.deref.ensures.value ∙ c.loop-path.invariant ∙ ap (map alone) (take_all c.loop-path.path-index c.args.tops.now c.loop-path-test.false) in
    let covers = λ (q : PathOf).
    ap (λ ps. is_inside (paths_seen ps) q) c.deref-2.ensures.value ∙ c.in_ok-new.ensures.covers q ∙ ap (λ es. is_in_two es (alone c.args.top.now ∷ []) q) all
    ∙ one_covered c.args.tops.now c.args.top.now q in
    copied_covers c.copied.result c.deref-2.result.now c.args.tops.now c.args.top.now covers c.copied.ensures
