use Rattle.std.proofs.Common.{◌≡◌, ◌≤◌, None, set, get_or, sym, ap, subst, ◌∙◌, arith}
use Rattle.kinds.specs.Kinds.{KindsOf, kinds_of, Releases}
use Rattle.kinds.proofs.Numbers.{freed, freed_at}
use Rattle.kinds.proofs.kinds.Kinds.release.Goals as goal

pub returns : goal.returns
returns g c =
    let slots = c.self.inside.slots in
    let k : KindsOf g.row.N.Denot = kinds_of slots in
    let at = c.args.number in
    let fewer = c.args.fewer in
    let le : get_or k.1 at 0 ≤ fewer = omega (arith, c.count_in-count.ensures, c.if-count-fewer.false) in
    let made : kinds_of c.in_ok-slots-2.slots ≡ (set k.0 at None, set k.1 at 0) = ap kinds_of c.in_ok-slots-2.ensures ∙ freed_at slots at in
    subst (λ (k : KindsOf g.row.N.Denot). Releases k at fewer (kinds_of c.in_ok-slots-2.slots)) c.self.view_is
    (subst (λ (new : KindsOf g.row.N.Denot). Releases k at fewer new) (sym made) (freed k.0 k.1 at fewer 0 (omega (arith, le)) le))
