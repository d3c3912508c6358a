use Rattle.std.proofs.Common.{◌≡◌, ℕ, List, Option, Some, set, sym, subst}
use Rattle.kinds.specs.Kinds.{KindsOf, kinds_of, IsNode, count_at}
use Rattle.kinds.specs.Renumbered.{Replaces}
use Rattle.kinds.proofs.OtherNumbers.{node_slot, replaced}
use Rattle.kinds.proofs.kinds.Kinds.with_node.Goals as goal

pub returns : goal.returns
returns g c =
    let slots = c.self.inside.slots in
    let x = c.args.node.value in
    let n : ℕ = c.args.number in
    let made : c.in_ok-slots.slots ≡ set slots n (Some x, c.count.result) = c.in_ok-slots.ensures in
    let count : c.count.result ≡ count_at (kinds_of slots) n = subst (λ (k : KindsOf g.row.N.Denot). c.count.result ≡ count_at k n) (sym c.self.view_is) c.count.ensures in
    subst (λ (k : KindsOf g.row.N.Denot). Replaces k x n (kinds_of c.in_ok-slots.slots)) c.self.view_is
    (subst (λ (l : List (Option g.row.N.Denot × ℕ)). Replaces (kinds_of slots) x n (kinds_of l)) (sym made)
    (replaced slots n x c.count.result (node_slot slots n (subst (λ (k : KindsOf g.row.N.Denot). IsNode k n) (sym c.self.view_is) c.requires)) count))
