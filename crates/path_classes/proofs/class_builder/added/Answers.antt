use Rattle.std.proofs.lemmas.Result.{IfOk-weaker}
use Rattle.path_classes.proofs.Growing.{adds_finds}
use Rattle.path_classes.proofs.class_builder.added.Goals as goal

pub returns : goal.returns
returns c =
    IfOk-weaker c.add.result _ _
    (λ new a. adds_finds c.args.rows.now c.args.classes new.0 c.in_ok-class.class.value c.args.above c.args.kind c.in_ok-depth.depth new.1 c.requires.row c.requires.above
    c.in_ok-depth.ensures c.in_ok-class.ensures.ok a) c.add.ensures
