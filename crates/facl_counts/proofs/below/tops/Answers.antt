use Rattle.std.proofs.Common.{map, ap, subst, sym, ◌∙◌}
use Rattle.std.proofs.lemmas.List.{take_all}
use Rattle.path_map.specs.Entries.{IsInOrder, seen}
use Rattle.path_classes.specs.Tops.{is_in_two}
use Rattle.facl_counts.proofs.OperandTops.{path_alone, alone_order, alone_covers}
use Rattle.facl_counts.proofs.below.tops.Goals as goal

pub tops_of-requires-clause-changed : goal.tops_of-requires-clause-changed
tops_of-requires-clause-changed c =
    let all = ap (map seen) c.deref.ensures.value ∙ c.loop-file.invariant ∙ ap (map path_alone) (take_all c.loop-file.file-index c.args.files.now c.loop-file-test.false) in
    subst IsInOrder (sym all) (alone_order c.args.files.now c.requires)

pub returns-clause-covers : goal.returns-clause-covers
returns-clause-covers c q =
    let all = ap (map seen) c.deref.ensures.value ∙ c.loop-file.invariant ∙ ap (map path_alone) (take_all c.loop-file.file-index c.args.files.now c.loop-file-test.false) in
    let none = ap (map seen) (c.deref-2.ensures.value ∙ c.new-none.ensures.items) in
    c.in_ok-tops.ensures.covers q ∙ (λ i. is_in_two (all i) (none i) q) ∙ alone_covers c.args.files.now q
