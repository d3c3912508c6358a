use Rattle.std.proofs.Common.{◌≡◌, ◌≤◌, ℕ, Bool, List, false, true, length, get_or, sym, ap, subst, ◌∙◌}
use Rattle.std.specs.Prelude.{count_by}
use Rattle.std.proofs.lemmas.List.{length-map}
use Rattle.acl_names.specs.Paths.{PathOf}
use Rattle.kinds.specs.Numbered.{Kept, entries_in}
use Rattle.path_classes.specs.declared.label_row.LabelRow.{LabelRow}
use Rattle.path_classes.specs.declared.path_class.PathClass.{PathClass}
use Rattle.path_classes.specs.ClassedRows.{verdicts_at}
use Rattle.path_classes.specs.FoundClasses.{is_marked}
use Rattle.path_classes.specs.PathClasses.{search_at, kind_at}
use Rattle.path_classes.proofs.MarkedClasses.{marked_counted, marked_few}
use Rattle.path_classes.proofs.Touched.{AreBoth}
use Rattle.path_classes.proofs.marked_classes.changed_count.Goals as goal

pub returns-clause-least : goal.returns-clause-least
returns-clause-least c =
    let old : Kept LabelRow = c.args.old.now in
    let rows : Kept LabelRow = c.args.rows.now in
    let before : Kept PathClass = c.args.before.now in
    let classes : Kept PathClass = c.args.classes.now in
    let both : AreBoth old rows before classes =
    record {
      sound_old = c.kinds-before.ensures.sound;
      sound_new = c.kinds-after.ensures.sound;
      order_old = c.order_law.ensures;
      order_new = c.order_law-2.ensures;
      order = c.kinds-were.ensures.sound.order;
      were = c.requires.were;
      are = c.requires.are;
      paths = c.requires.paths;
    } in
    let labels : List Bool = c.deref.result.now in
    let searches : List Bool = c.deref-2.result.now in
    marked_counted old rows before classes both c.requires.labels labels searches
    (subst (λ (l : List Bool). (n : ℕ) → get_or l n true ≡ false → verdicts_at rows.0 n ≡ verdicts_at old.0 n) (sym c.deref.ensures.value) c.in_ok-labels.ensures)
    (subst (λ (l : List Bool). (n : ℕ) → get_or l n true ≡ false → search_at classes.0 n ≡ search_at before.0 n) (sym c.deref-2.ensures.value)
    (subst (λ (k : Kept PathClass). (n : ℕ) → get_or c.in_ok-searches.searches.items n true ≡ false → search_at classes.0 n ≡ search_at k.0 n) c.map.ensures
    (subst (λ (k : Kept PathClass). (n : ℕ) → get_or c.in_ok-searches.searches.items n true ≡ false → search_at k.0 n ≡ search_at c.map.result.now.0 n) c.map-2.ensures
    c.in_ok-searches.ensures)))
    c.in_ok-count.count
    (c.in_ok-count.ensures ∙ ap (λ (k : Kept PathClass). count_by (λ (e : PathOf × PathClass). is_marked labels searches e.1) (entries_in k)) c.map-3.ensures)

pub returns-clause-most : goal.returns-clause-most
returns-clause-most c =
    let classes : Kept PathClass = c.args.classes.now in
    let labels : List Bool = c.deref.result.now in
    let searches : List Bool = c.deref-2.result.now in
    let paths : length classes.1 ≡ length c.args.rows.now.1 = sym (length-map classes.1 (λ (e : PathOf × ℕ). (e.0, kind_at classes.0 e.1))) ∙ ap length c.requires.are.kinds in
    subst (λ n. c.in_ok-count.count ≤ n) paths
    (marked_few (is_marked labels searches) classes c.in_ok-count.count c.kinds-are.ensures.sound.used
    (c.in_ok-count.ensures ∙ ap (λ (k : Kept PathClass). count_by (λ (e : PathOf × PathClass). is_marked labels searches e.1) (entries_in k)) c.map-3.ensures))
