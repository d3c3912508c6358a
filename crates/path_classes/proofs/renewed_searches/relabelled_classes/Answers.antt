use Rattle.std.proofs.Common.{◌≡◌, ℕ, List, ◌∷◌, [], sym, ap, subst, ◌∙◌}
use Rattle.kinds.specs.Kinds.{node_at}
use Rattle.kinds.specs.Numbered.{Kept}
use Rattle.path_classes.specs.declared.label_row.LabelRow.{LabelRow}
use Rattle.path_classes.specs.declared.path_class.PathClass.{PathClass}
use Rattle.path_classes.specs.ClassedRows.{AllInside}
use Rattle.path_classes.specs.Renewing.{FitBut}
use Rattle.path_classes.proofs.Relabelled.{node_there, same_but, fit_kind, search_still}
use Rattle.path_classes.proofs.renewed_searches.relabelled_classes.Goals as goal

pub with_kind-requires : goal.with_kind-requires
with_kind-requires c = node_there c.args.before.now c.kinds-sound.ensures.sound c.args.number c.args.kind c.args.rows.now c.requires

pub after-requires : goal.after-requires
after-requires c = same_but c.args.before.now c.args.number c.args.kind c.in_ok-map.map c.in_ok-map.ensures c.in_ok-numbers.numbers.items c.in_ok-numbers.ensures

pub renewed_classes-requires : goal.renewed_classes-requires
renewed_classes-requires c =
    let rows : Kept LabelRow = c.args.rows.now in
    let before : Kept PathClass = c.args.before.now in
    let map : Kept PathClass = c.in_ok-map.map in
    subst (λ (l : Kept PathClass). FitBut rows l c.in_ok-waiting.waiting.items) (sym c.in_ok-relabelled.ensures)
    (subst (λ (ns : List ℕ). FitBut rows map ns) (sym c.in_ok-waiting.ensures) (fit_kind before c.args.number c.args.kind map c.in_ok-map.ensures rows c.kinds-sound.ensures.sound c.requires))

pub returns-clause-paths : goal.returns-clause-paths
returns-clause-paths c = c.in_ok-new.ensures.paths ∙ ap (λ (l : Kept PathClass). l.1) c.in_ok-relabelled.ensures ∙ c.in_ok-map.ensures.numbers

pub returns-clause-search : goal.returns-clause-search
returns-clause-search c =
    search_still c.args.before.now c.args.number c.args.kind c.in_ok-map.map c.in_ok-map.ensures c.in_ok-new.new.0 c.in_ok-new.new.1.items
    (λ m out. c.in_ok-new.ensures.same m out ∙ ap (λ (l : Kept PathClass). node_at l.0 m) c.in_ok-relabelled.ensures)

pub returns-clause-inside : goal.returns-clause-inside
returns-clause-inside c tops h =
    let paths : c.in_ok-relabelled.relabelled.1 ≡ c.args.before.now.1 = ap (λ (l : Kept PathClass). l.1) c.in_ok-relabelled.ensures ∙ c.in_ok-map.ensures.numbers in
    subst (AllInside c.in_ok-new.new.1.items tops) paths
    (c.in_ok-new.ensures.inside tops
    (subst (λ (ns : List ℕ). AllInside ns tops c.in_ok-relabelled.relabelled.1) (sym c.in_ok-waiting.ensures) (subst (AllInside (c.args.number ∷ []) tops) (sym paths) h)))
