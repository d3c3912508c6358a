use Rattle.std.proofs.Common.{◌≡◌, List, ap, subst, ◌∙◌}
use Rattle.std.specs.Prelude.{OnOk}
use Rattle.path_map.specs.Below.{from, within}
use Rattle.path_map.specs.Entries.{IsInOrder}
use Rattle.acl_tree.specs.Files.{Recorded}
use Rattle.acl_tree.specs.Found.{FoundFile}
use Rattle.acl_tree.specs.State.{State}
use Rattle.path_classes.specs.Classes.{Classed}
use Rattle.facl_answers.specs.BothStates.{front}
use Rattle.facl_answers.specs.Inner.{rowed_files}
use Rattle.facl_counts.specs.Listed.{listed_in, listed_of, AddsListed}
use Rattle.facl_counts.proofs.FirstListed.{walk_listed}
use Rattle.facl_counts.proofs.listed.collect_below.Goals as goal

pub returns : goal.returns
returns g c =
    let V = g.J.Judge.verdict_of in
    let given = c.args.verdicts.now in
    let s = given.state.now in
    let l = c.args.listing.now in
    let top = c.args.top.now in
    let of_state = c.tree-tree.ensures ∙ ap (λ (known : State). known.tree) c.state.ensures in
    let order = subst (λ (t : Recorded). IsInOrder t.files) of_state c.soundness_law.ensures.order in
    let files = c.from.ensures ∙ ap (from top) (c.files_by_path.ensures.all ∙ ap (λ (t : Recorded). t.files) (c.files_whole.ensures ∙ of_state)) in
    let classes = ap (λ (k : Classed). k.1) (c.keep_apart.ensures ∙ c.classes_from-classes.ensures) in
    let are : listed_of l (rowed_files c.from.result (front top c.keep_apart.new.self.1)) ≡ listed_in V given.along s l (within top s.tree.files) =
    (λ i. listed_of l (rowed_files (files i) (front top (classes i)))) ∙ walk_listed V given.along s l top order
    in
    subst (λ (more : List FoundFile). OnOk c.collect_files.result (AddsListed l c.args.found.now.items c.collect_files.new.found.items more)) are c.collect_files.ensures
