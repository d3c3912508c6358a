use Rattle.std.proofs.Common.{ℕ, List, length, map, sym, ap, subst, ◌∙◌, arith}
use Rattle.std.specs.Borrow.{Bor}
use Rattle.acl_names.specs.Paths.{PathOf}
use Rattle.path_map.specs.Entries.{IsInOrder, seen}
use Rattle.path_map.specs.Merged.{merged}
use Rattle.kinds.specs.Inner.{AreAmong}
use Rattle.kinds.specs.Numbered.{Kept, Numbers, AreUsed}
use Rattle.path_classes.specs.declared.label_row.LabelRow.{LabelRow}
use Rattle.path_classes.specs.declared.path_class.PathClass.{PathClass}
use Rattle.path_classes.specs.PathClasses.{AreClasses}
use Rattle.path_classes.specs.ClassesWithin.{paths_seen, inside}
use Rattle.path_classes.specs.ClassedRows.{AreCountedOf}
use Rattle.kinds.specs.Renumbered.{IsPut}
use Rattle.kinds.specs.Tagged.{KeepsTags}
use Rattle.path_classes.proofs.FitWithin.{fits_outside}
use Rattle.path_classes.proofs.PutWithin.{class_tags_of, made_order, gone_order, made_used, tags_stay, made_among, put_classes}
use Rattle.path_classes.proofs.OutsideAnswers.{length_kinds, length_seen, counted_all}
use Rattle.path_classes.proofs.classes_within.classes_after.Goals as goal

pub found_within-requires-clause-fits : goal.found_within-requires-clause-fits
found_within-requires-clause-fits c = fits_outside c.args.rows.now.before.now c.args.rows.now.after.now (paths_seen c.args.tops.now) c.args.before.now c.requires.were c.requires.changes

pub put_counted-requires-clause-tags : goal.put_counted-requires-clause-tags
put_counted-requires-clause-tags c =
    let rows : Kept LabelRow = c.args.rows.now.after.now in
    let before : Kept PathClass = c.args.before.now in
    let old_order : IsInOrder before.1 = subst (λ (m : Kept PathClass). IsInOrder m.1) c.map-classes_before.ensures c.numbers-paths.ensures.sound.order in
    let fits = fits_outside c.args.rows.now.before.now rows (paths_seen c.args.tops.now) before c.requires.were c.requires.changes in
    subst (λ (ns : List ℕ). KeepsTags class_tags_of ns before.0 c.in_ok-classes.classes) (sym c.deref-3.ensures.value)
    (tags_stay rows (paths_seen c.args.tops.now) before.1 before.0 c.in_ok-classes.classes (map seen c.in_ok-classes.made.items)
    c.numbers-files.ensures.sound.order old_order fits c.in_ok-classes.ensures.found c.in_ok-classes.begun.items c.in_ok-classes.ensures.begun)

pub put_counted-requires-clause-counts : goal.put_counted-requires-clause-counts
put_counted-requires-clause-counts c = c.in_ok-classes.ensures.found.widens.counts

pub put_counted-requires-clause-used : goal.put_counted-requires-clause-used
put_counted-requires-clause-used c =
    let rows : Kept LabelRow = c.args.rows.now.after.now in
    let before : Kept PathClass = c.args.before.now in
    let old_order : IsInOrder before.1 = subst (λ (m : Kept PathClass). IsInOrder m.1) c.map-classes_before.ensures c.numbers-paths.ensures.sound.order in
    let fits = fits_outside c.args.rows.now.before.now rows (paths_seen c.args.tops.now) before c.requires.were c.requires.changes in
    subst (λ (fs : List (Bor PathOf × ℕ)). AreUsed c.in_ok-classes.classes (map seen fs)) (sym c.deref.ensures.value)
    (made_used rows (paths_seen c.args.tops.now) before.1 before.0 c.in_ok-classes.classes (map seen c.in_ok-classes.made.items)
    c.numbers-files.ensures.sound.order old_order fits c.in_ok-classes.ensures.found)

pub put_counted-requires-clause-puts : goal.put_counted-requires-clause-puts
put_counted-requires-clause-puts c =
    let rows : Kept LabelRow = c.args.rows.now.after.now in
    let before : Kept PathClass = c.args.before.now in
    let old_order : IsInOrder before.1 = subst (λ (m : Kept PathClass). IsInOrder m.1) c.map-classes_before.ensures c.numbers-paths.ensures.sound.order in
    let fits = fits_outside c.args.rows.now.before.now rows (paths_seen c.args.tops.now) before c.requires.were c.requires.changes in
    subst (λ (fs : List (Bor PathOf × ℕ)). IsInOrder (map seen fs)) (sym c.deref.ensures.value)
    (made_order rows (paths_seen c.args.tops.now) before.1 before.0 c.in_ok-classes.classes (map seen c.in_ok-classes.made.items)
    c.numbers-files.ensures.sound.order old_order fits c.in_ok-classes.ensures.found)

pub put_counted-requires-clause-gone : goal.put_counted-requires-clause-gone
put_counted-requires-clause-gone c =
    let rows : Kept LabelRow = c.args.rows.now.after.now in
    let before : Kept PathClass = c.args.before.now in
    let old_order : IsInOrder before.1 = subst (λ (m : Kept PathClass). IsInOrder m.1) c.map-classes_before.ensures c.numbers-paths.ensures.sound.order in
    let fits = fits_outside c.args.rows.now.before.now rows (paths_seen c.args.tops.now) before c.requires.were c.requires.changes in
    subst (λ (fs : List (Bor PathOf × ℕ)). IsInOrder (map seen fs)) (sym c.deref-2.ensures.value)
    (subst IsInOrder (sym c.in_ok-classes.ensures.gone)
    (gone_order rows (paths_seen c.args.tops.now) before.1 before.0 c.in_ok-classes.classes (map seen c.in_ok-classes.made.items)
    c.numbers-files.ensures.sound.order old_order fits c.in_ok-classes.ensures.found))

pub changed_answers-requires-clause-were : goal.changed_answers-requires-clause-were
changed_answers-requires-clause-were c = subst (AreClasses c.args.rows.now.before.now) (sym c.map-classes_before.ensures) c.requires.were

pub changed_answers-requires-clause-are : goal.changed_answers-requires-clause-are
changed_answers-requires-clause-are c =
    let rows : Kept LabelRow = c.args.rows.now.after.now in
    let before : Kept PathClass = c.args.before.now in
    let old_order : IsInOrder before.1 = subst (λ (m : Kept PathClass). IsInOrder m.1) c.map-classes_before.ensures c.numbers-paths.ensures.sound.order in
    let fits = fits_outside c.args.rows.now.before.now rows (paths_seen c.args.tops.now) before c.requires.were c.requires.changes in
    let made : Numbers = map seen c.in_ok-classes.made.items in
    subst (AreClasses rows) (sym c.map-new.ensures)
    (put_classes rows (paths_seen c.args.tops.now) before.1 before.0 c.in_ok-classes.classes (map seen c.in_ok-classes.made.items)
    c.numbers-files.ensures.sound.order old_order fits c.in_ok-classes.ensures.found c.in_ok-after.after
    (subst (λ (es : Numbers). IsPut before c.in_ok-classes.classes made es c.in_ok-after.after) c.in_ok-classes.ensures.gone
    (subst (λ (fs : List (Bor PathOf × ℕ)). IsPut before c.in_ok-classes.classes made (map seen fs) c.in_ok-after.after) c.deref-2.ensures.value
    (subst (λ (fs : List (Bor PathOf × ℕ)). IsPut before c.in_ok-classes.classes (map seen fs) (map seen c.deref-2.result.now) c.in_ok-after.after) c.deref.ensures.value c.in_ok-after.ensures))))

pub changed_answers-requires-clause-order : goal.changed_answers-requires-clause-order
changed_answers-requires-clause-order c =
    let rows : Kept LabelRow = c.args.rows.now.after.now in
    let before : Kept PathClass = c.args.before.now in
    let old_order : IsInOrder before.1 = subst (λ (m : Kept PathClass). IsInOrder m.1) c.map-classes_before.ensures c.numbers-paths.ensures.sound.order in
    let fits = fits_outside c.args.rows.now.before.now rows (paths_seen c.args.tops.now) before c.requires.were c.requires.changes in
    subst (λ (fs : List (Bor PathOf × ℕ)). IsInOrder (map seen fs)) (sym c.deref-4.ensures.value)
    (made_order rows (paths_seen c.args.tops.now) before.1 before.0 c.in_ok-classes.classes (map seen c.in_ok-classes.made.items)
    c.numbers-files.ensures.sound.order old_order fits c.in_ok-classes.ensures.found)

pub changed_answers-requires-clause-among : goal.changed_answers-requires-clause-among
changed_answers-requires-clause-among c =
    let rows : Kept LabelRow = c.args.rows.now.after.now in
    let before : Kept PathClass = c.args.before.now in
    let old_order : IsInOrder before.1 = subst (λ (m : Kept PathClass). IsInOrder m.1) c.map-classes_before.ensures c.numbers-paths.ensures.sound.order in
    let fits = fits_outside c.args.rows.now.before.now rows (paths_seen c.args.tops.now) before c.requires.were c.requires.changes in
    let made : Numbers = map seen c.in_ok-classes.made.items in
    let put : IsPut before c.in_ok-classes.classes made (map seen c.in_ok-classes.gone.items) c.in_ok-after.after =
    subst (λ (fs : List (Bor PathOf × ℕ)). IsPut before c.in_ok-classes.classes made (map seen fs) c.in_ok-after.after) c.deref-2.ensures.value
    (subst (λ (fs : List (Bor PathOf × ℕ)). IsPut before c.in_ok-classes.classes (map seen fs) (map seen c.deref-2.result.now) c.in_ok-after.after) c.deref.ensures.value c.in_ok-after.ensures) in
    subst (λ (fs : List (Bor PathOf × ℕ)). AreAmong c.map-new.result.now.1 (map seen fs)) (sym c.deref-4.ensures.value)
    (subst (λ (ns : Numbers). AreAmong ns made)
    (sym (ap (λ (m : Kept PathClass). m.1) c.map-new.ensures ∙ put.numbers ∙ ap (λ (es : Numbers). merged made es before.1) c.in_ok-classes.ensures.gone))
    (made_among rows (paths_seen c.args.tops.now) before.1 before.0 c.in_ok-classes.classes (map seen c.in_ok-classes.made.items)
    c.numbers-files.ensures.sound.order old_order fits c.in_ok-classes.ensures.found))

pub returns-clause-classes : goal.returns-clause-classes
returns-clause-classes c =
    let rows : Kept LabelRow = c.args.rows.now.after.now in
    let before : Kept PathClass = c.args.before.now in
    let old_order : IsInOrder before.1 = subst (λ (m : Kept PathClass). IsInOrder m.1) c.map-classes_before.ensures c.numbers-paths.ensures.sound.order in
    let fits = fits_outside c.args.rows.now.before.now rows (paths_seen c.args.tops.now) before c.requires.were c.requires.changes in
    let made : Numbers = map seen c.in_ok-classes.made.items in
    put_classes rows (paths_seen c.args.tops.now) before.1 before.0 c.in_ok-classes.classes (map seen c.in_ok-classes.made.items)
    c.numbers-files.ensures.sound.order old_order fits c.in_ok-classes.ensures.found c.in_ok-after.after
    (subst (λ (es : Numbers). IsPut before c.in_ok-classes.classes made es c.in_ok-after.after) c.in_ok-classes.ensures.gone
    (subst (λ (fs : List (Bor PathOf × ℕ)). IsPut before c.in_ok-classes.classes made (map seen fs) c.in_ok-after.after) c.deref-2.ensures.value
    (subst (λ (fs : List (Bor PathOf × ℕ)). IsPut before c.in_ok-classes.classes (map seen fs) (map seen c.deref-2.result.now) c.in_ok-after.after) c.deref.ensures.value c.in_ok-after.ensures)))

pub returns-clause-least : goal.returns-clause-least
returns-clause-least c =
    counted_all c.args.rows.now.before.now c.args.rows.now.after.now (paths_seen c.args.tops.now) c.requires.changes c.order_law.ensures c.order_law-2.ensures
    c.in_ok-classes.classes (map seen c.in_ok-classes.made.items) c.in_ok-changed.changed c.in_ok-classes.ensures.found.kinds
    (subst (λ (fs : List (Bor PathOf × ℕ)). AreCountedOf c.args.rows.now.before.now c.args.rows.now.after.now (map seen fs) c.in_ok-changed.changed) c.deref-4.ensures.value
    c.in_ok-changed.ensures.least)

pub returns-clause-most : goal.returns-clause-most
returns-clause-most c =
    let few = c.in_ok-changed.ensures.most in
    let same = ap (λ (fs : List (Bor PathOf × ℕ)). length fs) c.deref-4.ensures.value in
    let paths = length_seen c.in_ok-classes.made.items in
    let whole = length_kinds c.in_ok-classes.classes (map seen c.in_ok-classes.made.items) (inside (paths_seen c.args.tops.now) c.args.rows.now.after.now.1) c.in_ok-classes.ensures.found.kinds in
    omega (arith, few, same, paths, whole)
