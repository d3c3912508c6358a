use Rattle.std.proofs.Common.{sym, subst, ◌∙◌}
use Rattle.std.proofs.lemmas.Result.{IfOk-weaker}
use Rattle.kinds.specs.Kinds.{node_at}
use Rattle.path_classes.specs.PathClasses.{IsRight}
use Rattle.path_classes.specs.ClassBuilding.{Fills}
use Rattle.path_classes.proofs.Growing.{some_is, keeps_there, replaced_keeps}
use Rattle.path_classes.proofs.class_builder.keeping.Goals as goal

pub returns-then-is_some : goal.returns-then-is_some
returns-then-is_some c = keeps_there c.args.rows.now c.args.classes c.args.number c.node-class.result.now c.node-class.ensures (sym c.is_some.ensures ∙ c.if-is_some.true)

pub with_search-requires : goal.with_search-requires
with_search-requires c =
    subst (IsRight c.args.rows.now c.args.classes) (some_is (node_at c.args.classes c.args.number) c.requires.0 c.node-class.result.now c.requires.1.0 c.node-class.ensures) c.requires.1.1

pub returns : goal.returns
returns c =
    let x = c.in_ok-new-2.new.value in
    IfOk-weaker c.with_node.result _ _
    (λ new r. replaced_keeps c.args.rows.now c.args.classes new c.node-class.result.now x c.args.number c.node-class.ensures
    (subst (Fills c.args.rows.now c.args.classes c.node-class.result.now) (sym c.in_ok-new-2.ensures.ok) c.in_ok-new.ensures) r) c.with_node.ensures
