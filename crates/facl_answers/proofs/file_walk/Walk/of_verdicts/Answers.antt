use Rattle.std.proofs.Common.{◌≡◌, ap, ◌∙◌}
use Rattle.acl_tree.specs.Files.{Recorded}
use Rattle.acl_tree.specs.State.{State}
use Rattle.path_classes.specs.Rows.{Rows}
use Rattle.acl_rights.specs.Verdicts.{rows_granted}
use Rattle.facl_answers.specs.Inner.{rowed_files}
use Rattle.facl_answers.proofs.GrantedFiles.{files_are, from_root}
use Rattle.facl_answers.proofs.file_walk.Walk.of_verdicts.Goals as goal

pub returns : goal.returns
returns g c =
    let V = g.J.Judge.verdict_of in
    let asked = c.args.verdicts.now in
    let rows : Rows = rows_granted V asked.along asked.state.now in
    let all : c.classes_from-classes.result.1 ≡ rows = c.classes_from-classes.ensures.all ∙ from_root c.root.result rows c.root.ensures in
    let files : c.iter.result ≡ asked.state.now.tree.files = c.iter.ensures ∙ ap (λ (known : Recorded). known.files) (c.tree.ensures ∙ ap (λ (known : State). known.tree) c.state-state.ensures) in
    (λ i. rowed_files (files i) (all i)) ∙ files_are V asked.state.now asked.along c.classes_from-classes.ensures.tree
