use Rattle.std.proofs.Common.{arith, Some, sym, ap, ◌∙◌}
use Rattle.path_map.specs.Entries.{seen}
use Rattle.path_classes.proofs.Walks.{row_last}
use Rattle.path_classes.proofs.stack.last.Goals as goal

pub returns : goal.returns
returns g c = ap (λ e. Some (seen e).1) (sym c.index-stack-stack.is)
    ∙ sym (row_last seen c.args.stack.now c.index-stack-stack.result (grind (arith, c.if-is_empty.false, c.is_empty.ensures)) c.index-stack-stack.is)
