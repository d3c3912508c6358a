use Rattle.std.proofs.Common.{ℕ, Option, subst, IfSome}
use Rattle.std.proofs.lemmas.Result.{IfOk-weaker}
use Rattle.path_classes.specs.ClassBuilding.{IsKeptClass}
use Rattle.path_classes.proofs.Growing.{kept_finds, keeps_finds}
use Rattle.path_classes.proofs.class_builder.kept_or_added.Goals as goal

pub returns-in-Some : goal.returns-in-Some
returns-in-Some c =
    kept_finds c.args.sources.now.rows.now c.args.classes c.args.sources.now.kept.now.outside c.args.above c.args.kind c.in-Some.class c.requires.kept
    (subst (λ (o : Option ℕ). IfSome o (IsKeptClass c.args.classes c.args.sources.now.kept.now.outside c.args.above c.args.kind)) c.in-Some.is c.in_ok-class.ensures)

pub returns : goal.returns
returns c =
    IfOk-weaker c.added.result _ _
    (λ new f. keeps_finds c.args.sources.now.rows.now c.args.classes c.in_ok-classes.classes new.0 c.args.above c.args.kind new.1 c.in_ok-classes.ensures f)
    c.added.ensures
