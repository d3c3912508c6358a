use Rattle.std.proofs.Common.{◌≡◌, ◌<◌, ◌++◌, ◌∷◌, [], true, None, List, filter, get_or, length, ap, subst, ◌∙◌}
use Rattle.std.specs.List.{flat_map}
use Rattle.std.proofs.lemmas.Result.{err_from_is_err_and}
use Rattle.acl_names.specs.Paths.{PathOf}
use Rattle.acl_tree.specs.Found.{files_found}
use Rattle.acl_tree.specs.Operands.{first_missing, IsMissing}
use Rattle.acl_tree.specs.Files.{Recorded}
use Rattle.acl_tree.specs.State.{State}
use Rattle.facl_output.proofs.Loops.{item_added}
use Rattle.facl_counts.specs.BelowText.{folder_lines, folders_of, is_folder}
use Rattle.facl_counts.proofs.LookedUp.{is_missing, none_missing}
use Rattle.facl_counts.proofs.folders.write_folders.Goals as goal

pub returns-in_err-folders-clause-reported : goal.returns-in_err-folders-clause-reported
returns-in_err-folders-clause-reported g c =
    let paths = c.args.paths.now in
    let p = c.path-item.result in
    let i = c.loop-path.path-index in
    let tree_is = c.tree.ensures ∙ ap (λ (s : State). s.tree) c.state-state.ensures in
    let lt = subst (λ (ps : List PathOf). i < length ps) c.as_slice-path-items.ensures c.loop-path-test.true in
    let is = subst (λ (ps : List PathOf). p ≡ get_or ps i p) c.as_slice-path-items.ensures c.path-item.is in
    let fault = c.in_err-folders.field-0.0 in
    let faults = err_from_is_err_and c.from_residual-in_err-folders.result c.from_residual-in_err-folders.ensures.1 in
    rw (faults.1, faults.2) (λ some.
    is_missing paths i p c.args.verdicts.now.state.now.tree.files lt is c.loop-path.invariant.there fault
    (subst (λ (t : Recorded). IsMissing fault (first_missing (p ∷ []) t.files)) tree_is (c.in_err-folders.ensures.reported some)))

pub loop-path-preserved : goal.loop-path-preserved
loop-path-preserved g c =
    let given = c.args.verdicts.now in
    let which = c.args.which.now in
    let paths = c.args.paths.now in
    let p = c.path-item.result in
    let i = c.loop-path.path-index in
    let tree_is = c.tree.ensures ∙ ap (λ (s : State). s.tree) c.state-state.ensures in
    let lt = subst (λ (ps : List PathOf). i < length ps) c.as_slice-path-items.ensures c.loop-path-test.true in
    let is = subst (λ (ps : List PathOf). p ≡ get_or ps i p) c.as_slice-path-items.ensures c.path-item.is in
    let lines = folder_lines g.J.Judge.verdict_of given.along given.state.now which.asked.request which.asked.kind which.user in
    let text = c.loop-path.text.items in
    let wrote = c.in_ok-push_folders.ensures
    ∙ ap (λ fs. text ++ flat_map lines fs)
    (c.deref-in-loop-path.ensures.value ∙ c.in_ok-folders.ensures.folders ∙ ap (λ (t : Recorded). filter (is_folder which.depth p) (files_found true (p ∷ []) t.files)) tree_is)
    in
    record {
      text =
          item_added (λ q. flat_map lines (folders_of g.J.Judge.verdict_of given.along given.state.now which.depth q)) paths [] i p p text c.push_folders.new.text.items lt is
          c.loop-path.invariant.text wrote;
      there =
          none_missing paths i p given.state.now.tree.files lt is c.loop-path.invariant.there
          (subst (λ (t : Recorded). first_missing (p ∷ []) t.files ≡ None) tree_is c.in_ok-folders.ensures.there);
    }
