use Rattle.std.proofs.Common.{ℕ, List, sym, ◌∙◌}
use Rattle.std.specs.Prelude.{count_by}
use Rattle.acl_names.specs.Paths.{PathOf}
use Rattle.kinds.specs.Numbered.{Kept}
use Rattle.path_classes.specs.declared.label_row.LabelRow.{LabelRow}
use Rattle.path_classes.specs.declared.path_class.PathClass.{PathClass}
use Rattle.path_classes.specs.FoundClasses.{is_touched}
use Rattle.path_classes.proofs.ClassTags.{are_labelled}
use Rattle.path_classes.proofs.RenewedClasses.{fit_rows}
use Rattle.path_classes.proofs.Rerowed.{rerowed_counted, rerowed_within, waiting_inside}
use Rattle.path_classes.proofs.Touched.{AreBoth}
use Rattle.path_classes.proofs.rerowed_classes.rerowed_classes.Goals as goal

pub renewed_classes-requires : goal.renewed_classes-requires
renewed_classes-requires c =
    let before : Kept PathClass = c.args.before.now in
    let labels : List ℕ = c.args.labels.now in
    let waiting : List ℕ = c.in_ok-waiting.waiting.items in
    fit_rows c.args.old.now c.args.rows.now before c.kinds-classes.ensures.sound labels waiting c.requires.were c.requires.changes
    (are_labelled before.0 labels waiting c.in_ok-waiting.ensures.exact)

pub touched_paths-requires-clause-kinds : goal.touched_paths-requires-clause-kinds
touched_paths-requires-clause-kinds c = c.requires.were.kinds ∙ sym c.requires.changes.numbers

pub returns-clause-least : goal.returns-clause-least
returns-clause-least c =
    let old : Kept LabelRow = c.args.old.now in
    let rows : Kept LabelRow = c.args.rows.now in
    let before : Kept PathClass = c.args.before.now in
    let classes : Kept PathClass = c.in_ok-new.new.0 in
    let labels : List ℕ = c.args.labels.now in
    let changed : List ℕ = c.in_ok-new.new.1.items in
    let both : AreBoth old rows before classes =
    record {
      sound_old = c.kinds-labels_before.ensures.sound;
      sound_new = c.kinds-labels.ensures.sound;
      order_old = c.order_law.ensures;
      order_new = c.order_law-2.ensures;
      order = c.kinds-classes.ensures.sound.order;
      were = c.requires.were;
      are = c.in_ok-new.ensures.classes;
      paths = c.in_ok-new.ensures.paths;
    } in
    rerowed_counted old rows before classes both c.kinds-classes.ensures.sound labels changed c.requires.changes c.in_ok-new.ensures.same c.in_ok-count.count
    (c.in_ok-count.ensures ∙ (λ i. count_by (λ (e : PathOf × ℕ). is_touched before.0 labels (c.deref.ensures.value i) e.1) before.1))

pub returns-clause-most : goal.returns-clause-most
returns-clause-most c tops all =
    let old : Kept LabelRow = c.args.old.now in
    let rows : Kept LabelRow = c.args.rows.now in
    let before : Kept PathClass = c.args.before.now in
    let classes : Kept PathClass = c.in_ok-new.new.0 in
    let labels : List ℕ = c.args.labels.now in
    let waiting : List ℕ = c.in_ok-waiting.waiting.items in
    let changed : List ℕ = c.in_ok-new.new.1.items in
    let both : AreBoth old rows before classes =
    record {
      sound_old = c.kinds-labels_before.ensures.sound;
      sound_new = c.kinds-labels.ensures.sound;
      order_old = c.order_law.ensures;
      order_new = c.order_law-2.ensures;
      order = c.kinds-classes.ensures.sound.order;
      were = c.requires.were;
      are = c.in_ok-new.ensures.classes;
      paths = c.in_ok-new.ensures.paths;
    } in
    rerowed_within old rows before classes both c.kinds-classes.ensures.sound labels changed c.requires.changes c.in_ok-new.ensures.same c.in_ok-count.count
    (c.in_ok-count.ensures ∙ (λ i. count_by (λ (e : PathOf × ℕ). is_touched before.0 labels (c.deref.ensures.value i) e.1) before.1))
    tops all
    (c.in_ok-new.ensures.inside tops
    (waiting_inside old rows before classes both c.kinds-classes.ensures.sound labels changed c.requires.changes c.in_ok-new.ensures.same waiting c.in_ok-waiting.ensures.exact tops all))
