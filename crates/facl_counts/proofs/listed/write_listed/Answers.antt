use Rattle.std.proofs.Common.{◌≡◌, true, false, List, ◌++◌, Bor, filter, map, take, sym, ap, subst, ◌∙◌}
use Rattle.std.specs.List.{flat_map}
use Rattle.acl_names.specs.Paths.{PathOf}
use Rattle.acl_edit.specs.declared.node.Node.{Node}
use Rattle.acl_tree.specs.Files.{Files, Recorded}
use Rattle.acl_tree.specs.Found.{FoundFile}
use Rattle.acl_tree.specs.Operands.{is_file}
use Rattle.acl_tree.specs.State.{State}
use Rattle.path_map.specs.Entries.{IsInOrder}
use Rattle.path_map.proofs.Rows.{in_order-filter}
use Rattle.path_classes.specs.ClassesWithin.{paths_seen, is_inside, inside}
use Rattle.facl_answers.specs.Answers.{file_line}
use Rattle.facl_counts.specs.Listed.{listed_in}
use Rattle.facl_counts.proofs.FirstListed.{listed_lines}
use Rattle.facl_counts.proofs.OperandTops.{found_entries, found_covers, operand_rows}
use Rattle.facl_counts.proofs.listed.write_listed.Goals as goal

pub returns-clause-text : goal.returns-clause-text
returns-clause-text g c =
    let V = g.J.Judge.verdict_of in
    let along = c.args.verdicts.now.along in
    let s = c.args.verdicts.now.state.now in
    let l = c.args.listing.now in
    let found = c.in_ok-files.ensures in
    let files = c.deref.ensures.value ∙ found.0 in
    let of_state = ap (λ (known : State). known.tree) c.state-state.ensures in
    let tops = c.in_ok-tops.tops.items in
    let covers = λ (p : PathOf).
    c.in_ok-tops.ensures.covers p
    ∙ ap (λ (fs : List FoundFile). is_inside (map (λ (f : FoundFile). f.path) fs) p) files
    ∙ found_covers c.args.paths.now c.tree-2.result.now.files found.1 p
    in
    let listed : c.in_ok-found.found.items ≡ take l.most (listed_in V along s l (filter (λ e. is_file true c.args.paths.now e.0) s.tree.files)) =
    c.in_ok-found.ensures
    ∙ ap (λ (ts : List (Bor PathOf)). take l.most (listed_in V along s l (inside (paths_seen ts) s.tree.files))) c.deref-2.ensures.value
    ∙ ap (λ (es : Files). take l.most (listed_in V along s l es)) (operand_rows (paths_seen tops) c.args.paths.now covers s.tree.files)
    in
    c.in_ok-push_found.ensures
    ∙ (λ i. c.new-text.ensures.items i ++ flat_map file_line (c.deref-3.ensures.value i))
    ∙ ap (flat_map file_line) listed
    ∙ listed_lines V along s l c.args.paths.now

pub tops-requires : goal.tops-requires
tops-requires g c =
    let t = c.tree-2.result.now.files in
    let order : IsInOrder t = subst (λ (t : Recorded). IsInOrder t.files) (c.tree.ensures ∙ sym c.tree-2.ensures) c.soundness_law.ensures.order in
    let among = filter (λ (e : PathOf × Node). is_file false c.args.paths.now e.0) t in
    subst (λ (fs : List FoundFile). IsInOrder (map (λ (f : FoundFile). (f.path, f.node)) fs)) (sym (c.deref.ensures.value ∙ c.in_ok-files.ensures.0))
    (subst IsInOrder (sym (found_entries t among)) (in_order-filter (λ (e : PathOf × Node). is_file false c.args.paths.now e.0) t order))
