use Rattle.std.proofs.Common.{subst}
use Rattle.kinds.specs.Kinds.{Adds}
use Rattle.kinds.proofs.InTurn.{added}
use Rattle.kinds.proofs.numbering.number_new.Goals as goal

pub returns : goal.returns
returns g c =
    added c.args.kinds c.in_ok-kinds.kinds c.args.node c.in_ok-kinds.at
    (subst (λ (x : g.row.N.Denot). Adds c.args.kinds x c.in_ok-kinds.at c.in_ok-kinds.kinds) c.in_ok-node.ensures.ok c.in_ok-kinds.ensures)
