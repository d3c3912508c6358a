use Rattle.std.proofs.Common.{◌≡◌, false, List, ◌++◌, Bor, filter, map, sym, ap, subst, ◌∙◌}
use Rattle.acl_names.specs.Names.{escaped}
use Rattle.acl_names.specs.Paths.{PathOf}
use Rattle.acl_people.specs.KnownPeople.{KnownPeople}
use Rattle.acl_edit.specs.declared.node.Node.{Node}
use Rattle.acl_tree.specs.Files.{Recorded}
use Rattle.acl_tree.specs.Found.{FoundFile}
use Rattle.acl_tree.specs.Operands.{is_file}
use Rattle.acl_tree.specs.State.{State}
use Rattle.path_map.specs.Entries.{IsInOrder}
use Rattle.path_map.proofs.Rows.{in_order-filter}
use Rattle.path_classes.specs.ClassesWithin.{paths_seen, is_inside, inside}
use Rattle.path_classes.specs.Rows.{Rows}
use Rattle.facl_counts.specs.Sums.{rows_of_kind, sum_lines, AreSums}
use Rattle.facl_counts.proofs.BelowLines.{below_lines}
use Rattle.facl_counts.proofs.OperandTops.{found_entries, found_covers, operand_rows}
use Rattle.facl_counts.proofs.below.write_below.Goals as goal

pub returns-clause-text : goal.returns-clause-text
returns-clause-text g c =
    let V = g.J.Judge.verdict_of in
    let along = c.args.verdicts.now.along in
    let s = c.args.verdicts.now.state.now in
    let q = c.args.asked.now.request in
    let kind = c.args.asked.now.kind in
    let names = c.in_ok-names.names.items in
    let sums = c.in_ok-sums.sums in
    let of_state = ap (λ (known : State). known.tree) c.state-state.ensures in
    let order : IsInOrder s.tree.files = subst (λ (t : Recorded). IsInOrder t.files) (c.tree.ensures ∙ of_state) c.soundness_law.ensures.order in
    let of_people = c.people.ensures ∙ ap (λ (known : State). known.people) c.state-state.ensures in
    let written : map (λ n. n.items) names ≡ map (λ row. escaped row.name) s.people.users = c.in_ok-names.ensures ∙ ap (λ (known : KnownPeople). map (λ row. escaped row.name) known.users) of_people in
    let all : Rows = rows_of_kind V along s kind in
    let found = c.in_ok-files.ensures in
    let files = c.deref.ensures.value ∙ found.0 in
    let tops = c.in_ok-tops.tops.items in
    let covers = λ (p : PathOf).
    c.in_ok-tops.ensures.covers p
    ∙ ap (λ (fs : List FoundFile). is_inside (map (λ (f : FoundFile). f.path) fs) p) files
    ∙ found_covers c.args.paths.now c.tree-2.result.now.files found.1 p
    in
    let of_tops = subst (λ users. AreSums q (inside (paths_seen c.deref-2.result.now) all) users sums) c.deref-3.ensures.value c.in_ok-sums.ensures in
    let are = subst (λ (rows : Rows). AreSums q rows names sums) (operand_rows (paths_seen tops) c.args.paths.now covers all)
    (subst (λ (ts : List (Bor PathOf)). AreSums q (inside (paths_seen ts) all) names sums) c.deref-2.ensures.value of_tops)
    in
    let walked = c.tree-3.ensures ∙ of_state in
    c.in_ok-push_sums.ensures
    ∙ (λ i. c.new-text.ensures.items i ++ sum_lines (walked i).files (map (λ n. n.items) (c.deref-4.ensures.value i)) sums)
    ∙ below_lines V along s q kind c.args.paths.now order (λ n. n.items) names sums written are

pub tops-requires : goal.tops-requires
tops-requires g c =
    let t = c.tree-2.result.now.files in
    let order : IsInOrder t = subst (λ (t : Recorded). IsInOrder t.files) (c.tree.ensures ∙ sym c.tree-2.ensures) c.soundness_law.ensures.order in
    let among = filter (λ (e : PathOf × Node). is_file false c.args.paths.now e.0) t in
    subst (λ (fs : List FoundFile). IsInOrder (map (λ (f : FoundFile). (f.path, f.node)) fs)) (sym (c.deref.ensures.value ∙ c.in_ok-files.ensures.0))
    (subst IsInOrder (sym (found_entries t among)) (in_order-filter (λ (e : PathOf × Node). is_file false c.args.paths.now e.0) t order))
