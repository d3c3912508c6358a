use Rattle.std.proofs.Common.{◌-◌, ℕ, List, not, map, filter, sym, ap, subst, ◌∙◌}
use Rattle.std.specs.Borrow.{Bor}
use Rattle.acl_names.specs.Paths.{PathOf}
use Rattle.path_map.specs.Entries.{IsInOrder, seen}
use Rattle.path_map.specs.Merged.{has}
use Rattle.path_map.proofs.Rows.{in_order-filter}
use Rattle.kinds.specs.Kinds.{count_at}
use Rattle.kinds.specs.Numbered.{Kept, paths_with}
use Rattle.path_classes.specs.declared.label_row.LabelRow.{LabelRow}
use Rattle.path_classes.specs.declared.path_class.PathClass.{PathClass}
use Rattle.path_classes.specs.ClassBuilding.{SameClassesBut}
use Rattle.path_classes.specs.ClassesWithin.{paths_seen, is_inside, inside, outside, FitOutside, AreFound}
use Rattle.path_classes.proofs.FoundWithin.{kept_right}
use Rattle.path_classes.proofs.classes_within.found_within.Goals as goal

pub classes_within-requires-clause-fits : goal.classes_within-requires-clause-fits
classes_within-requires-clause-fits c =
    subst (λ (m : Kept PathClass). FitOutside c.args.rows.now (paths_seen c.args.tops.now) m) (sym c.map-classes_before.ensures) c.requires.fits

pub classes_within-requires-clause-kept : goal.classes_within-requires-clause-kept
classes_within-requires-clause-kept c =
    let rows : Kept LabelRow = c.args.rows.now in
    let tops : List PathOf = paths_seen c.args.tops.now in
    let m : Kept PathClass = c.map-classes_before.result.now in
    kept_right rows tops m c.in_ok-kept.kept.outside (map seen c.in_ok-inside.inside.items)
    (subst (λ (m : Kept PathClass). FitOutside rows tops m) (sym c.map-classes_before.ensures) c.requires.fits)
    c.numbers-paths.ensures.sound.counted (c.in_ok-inside.ensures ∙ ap (inside tops) c.numbers-paths.ensures.all)
    (λ n.
    c.in_ok-kept.ensures n
    ∙ (λ i. count_at (sym c.map-classes_before.ensures i).0 n - paths_with n (map seen (c.deref.ensures.value i))))

pub gone_of-requires : goal.gone_of-requires
gone_of-requires c =
    let tops : List PathOf = paths_seen c.args.tops.now in
    subst (λ (fs : List (Bor PathOf × ℕ)). IsInOrder (map seen fs)) (sym c.deref-2.ensures.value)
    (subst IsInOrder (sym (c.in_ok-inside.ensures ∙ ap (inside tops) c.numbers-paths.ensures.all))
    (in_order-filter (λ (e : PathOf × ℕ). is_inside tops e.0) c.map-classes_before.result.now.1 c.numbers-paths.ensures.sound.order))

pub returns-clause-found : goal.returns-clause-found
returns-clause-found c =
    subst (λ (m : Kept PathClass). AreFound c.args.rows.now (paths_seen c.args.tops.now) (outside (paths_seen c.args.tops.now) m.1) m.0 c.in_ok-classes.classes (map seen c.in_ok-classes.made.items))
    c.map-classes_before.ensures c.in_ok-classes.ensures.found

pub returns-clause-begun : goal.returns-clause-begun
returns-clause-begun c = subst (λ (m : Kept PathClass). SameClassesBut c.in_ok-classes.begun.items m.0 c.in_ok-classes.classes) c.map-classes_before.ensures c.in_ok-classes.ensures.begun

pub returns-clause-gone : goal.returns-clause-gone
returns-clause-gone c =
    let tops : List PathOf = paths_seen c.args.tops.now in
    c.in_ok-gone.ensures
    ∙ (λ i. filter (λ (e : PathOf × ℕ). not (has e.0 (c.numbers-files.ensures.all i))) (map seen (c.deref-2.ensures.value i)))
    ∙ ap (filter (λ (e : PathOf × ℕ). not (has e.0 c.args.rows.now.1)))
    (c.in_ok-inside.ensures ∙ ap (inside tops) (c.numbers-paths.ensures.all ∙ ap (λ (m : Kept PathClass). m.1) c.map-classes_before.ensures))
