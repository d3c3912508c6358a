use Rattle.std.proofs.Common.{◌≡◌, sym, ap, subst, ◌∙◌}
use Rattle.kinds.specs.Kinds.{KindsOf}
use Rattle.kinds.specs.Numbered.{Numbers, Kept, AreSound}
use Rattle.kinds.specs.Tagged.{ChangesEach, AreNoted}
use Rattle.kinds.proofs.ChangedNodes.{changed_sound}
use Rattle.kinds.proofs.map.KindMap.changed_at.Goals as goal

pub of-requires : goal.of-requires
of-requires g c =
    let f = g.C.NodeChange.changed c.args.change.now in
    let kept : Kept g.row.N.Denot = c.args.self.now in
    let each : ChangesEach f c.args.numbers.now kept.0 c.in_ok-kinds.kinds =
    subst (λ (k : KindsOf g.row.N.Denot). ChangesEach f c.args.numbers.now k c.in_ok-kinds.kinds) c.kinds.ensures.all c.in_ok-kinds.ensures.kinds in
    let paths : c.in_ok-paths.paths ≡ kept.1 = c.in_ok-paths.ensures ∙ c.numbers.ensures.all in
    subst (λ (ns : Numbers). AreSound c.in_ok-kinds.kinds ns) (sym paths) (changed_sound f kept.0 c.in_ok-kinds.kinds c.args.numbers.now kept.1 each c.kinds.ensures.sound)

pub returns-clause-kinds : goal.returns-clause-kinds
returns-clause-kinds g c =
    let f = g.C.NodeChange.changed c.args.change.now in
    let kept : Kept g.row.N.Denot = c.args.self.now in
    let each : ChangesEach f c.args.numbers.now kept.0 c.in_ok-kinds.kinds =
    subst (λ (k : KindsOf g.row.N.Denot). ChangesEach f c.args.numbers.now k c.in_ok-kinds.kinds) c.kinds.ensures.all c.in_ok-kinds.ensures.kinds in
    subst (λ (m : Kept g.row.N.Denot). ChangesEach f c.args.numbers.now kept.0 m.0) (sym c.in_ok-map.ensures) each

pub returns-clause-paths : goal.returns-clause-paths
returns-clause-paths g c = ap (λ (m : Kept g.row.N.Denot). m.1) c.in_ok-map.ensures ∙ c.in_ok-paths.ensures ∙ c.numbers.ensures.all

pub returns-clause-noted : goal.returns-clause-noted
returns-clause-noted g c =
    let kept : Kept g.row.N.Denot = c.args.self.now in
    subst (λ (m : Kept g.row.N.Denot). AreNoted c.args.numbers.now kept.0 m.0 c.in_ok-kinds.changed.items) (sym c.in_ok-map.ensures)
    (subst (λ (k : KindsOf g.row.N.Denot). AreNoted c.args.numbers.now k c.in_ok-kinds.kinds c.in_ok-kinds.changed.items) c.kinds.ensures.all c.in_ok-kinds.ensures.noted)
