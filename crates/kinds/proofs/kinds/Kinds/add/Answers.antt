use Rattle.std.proofs.Common.{◌≡◌, ◌++◌, ◌∷◌, [], List, Option, ℕ, Some, set, length, sym, subst}
use Rattle.kinds.specs.Kinds.{KindsOf, kinds_of, Adds}
use Rattle.kinds.proofs.Numbers.{reused, grown}
use Rattle.kinds.proofs.kinds.Kinds.add.Goals as goal

pub returns-in-Some : goal.returns-in-Some
returns-in-Some g c =
    let slots = c.self.inside.slots in
    let free = c.self.inside.free in
    let x = c.args.node.value in
    let made : c.in_ok-slots.slots ≡ set slots free (Some x, 0) = c.in_ok-slots.ensures in
    subst (λ (k : KindsOf g.row.N.Denot). Adds k x free (kinds_of c.in_ok-slots.slots)) c.self.view_is
    (subst (λ (l : List (Option g.row.N.Denot × ℕ)). Adds (kinds_of slots) x free (kinds_of l)) (sym made) (reused slots free x c.in-Some.ensures))

pub returns : goal.returns
returns g c =
    let slots = c.self.inside.slots in
    let x = c.args.node.value in
    let made : c.in_ok-slots-2.slots ≡ slots ++ (Some x, 0) ∷ [] = c.in_ok-slots-2.ensures in
    subst (λ (k : KindsOf g.row.N.Denot). Adds k x c.len-number.result (kinds_of c.in_ok-slots-2.slots)) c.self.view_is
    (subst (λ (n : ℕ). Adds (kinds_of slots) x n (kinds_of c.in_ok-slots-2.slots)) (sym c.len-number.ensures)
    (subst (λ (l : List (Option g.row.N.Denot × ℕ)). Adds (kinds_of slots) x (length slots) (kinds_of l)) (sym made) (grown slots x)))
