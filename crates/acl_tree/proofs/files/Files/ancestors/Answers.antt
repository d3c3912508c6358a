use Rattle.std.proofs.Common.{◌∷◌, ◌++◌, [], ap, ◌∙◌}
use Rattle.std.specs.Prelude.{option_map}
use Rattle.acl_names.specs.Paths.{PathOf}
use Rattle.kinds.specs.Numbered.{entries_in}
use Rattle.kinds.specs.Puts.{borrowed}
use Rattle.acl_tree.specs.Files.{Files}
use Rattle.acl_tree.specs.Walks.{ancestors}
use Rattle.acl_tree.proofs.Ancestors.{climb_begins, climb_more, climb_less, climb_ends}
use Rattle.acl_tree.proofs.files.Files.ancestors.Goals as goal

pub loop-above-init : goal.loop-above-init
loop-above-init c = climb_begins c.args.path.now (entries_in c.files_by_path-files.result.now)
    (option_map borrowed c.nearest_above-above.result) c.new-paths.result.items c.order_law.ensures c.nearest_above-above.ensures c.new-paths.ensures.items

pub loop-above-smaller : goal.loop-above-smaller
loop-above-smaller c =
    climb_less c.args.path.now (entries_in c.files_by_path-files.result.now) (option_map borrowed c.loop-above.above)
    (option_map borrowed c.nearest_above-above-in-Some.result) (borrowed c.in-Some.file) c.order_law.ensures
    (ap (option_map borrowed) c.in-Some.is) c.nearest_above-above-in-Some.ensures

pub loop-above-preserved : goal.loop-above-preserved
loop-above-preserved c =
    climb_more c.args.path.now (entries_in c.files_by_path-files.result.now) (option_map borrowed c.loop-above.above)
    (option_map borrowed c.nearest_above-above-in-Some.result) (borrowed c.in-Some.file) c.order_law.ensures
    (ap (option_map borrowed) c.in-Some.is) c.nearest_above-above-in-Some.ensures c.loop-above.paths.items c.push.new.self.items c.loop-above.invariant
    (c.in_ok-push.ensures.items ∙ ap (λ (p : PathOf). c.loop-above.paths.items ++ p ∷ []) c.in_ok-try_clone.ensures)

pub returns : goal.returns
returns c =
    c.reverse.ensures.items
    ∙ climb_ends c.args.path.now (entries_in c.files_by_path-files.result.now)
    (option_map borrowed c.loop-above.above) c.loop-above.paths.items c.loop-above.invariant (ap (option_map borrowed) c.in_default.is)
    ∙ ap (λ (l : Files). ancestors c.args.path.now l) c.files_by_path-files.ensures.all
