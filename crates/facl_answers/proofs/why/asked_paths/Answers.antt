use Rattle.std.proofs.Common.{◌++◌, ◌∷◌, [], List, sym, ap, ◌∙◌}
use Rattle.acl_tree.specs.Walks.{ancestors}
use Rattle.acl_names.specs.Paths.{PathOf}
use Rattle.acl_tree.specs.Files.{Files}
use Rattle.facl_answers.specs.Inner.{asked_paths, ways}
use Rattle.facl_output.proofs.Loops.{item_added, all_added}
use Rattle.facl_answers.proofs.why.asked_paths.Goals as goal

abbrev way_of : Files → PathOf → List PathOf
way_of files path = ancestors path files ++ path ∷ []

pub loop-path-preserved : goal.loop-path-preserved
loop-path-preserved c =
    let path = c.path-item.result in
    item_added (way_of c.args.tree.now.files) c.as_slice-path-items.result.now [] c.loop-path.path-index path path c.loop-path.all.items c.push_way.new.all.items c.loop-path-test.true c.path-item.is
    c.loop-path.invariant c.in_ok-push_way.ensures

pub returns-then-along : goal.returns-then-along
returns-then-along c =
    c.new.ensures
    ∙ all_added (way_of c.args.tree.now.files) c.as_slice-path-items.result.now [] c.loop-path.path-index c.loop-path.all.items c.loop-path-test.false c.loop-path.invariant
    ∙ ap (λ paths. ways paths c.args.tree.now.files) c.as_slice-path-items.ensures
    ∙ ap (λ b. asked_paths b c.args.paths c.args.tree.now.files) (sym c.if-along.true)
