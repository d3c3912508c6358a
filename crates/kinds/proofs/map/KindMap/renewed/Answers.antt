use Rattle.std.proofs.Common.{◌≡◌, length, sym, ap, subst, ◌∙◌, arith}
use Rattle.kinds.specs.Kinds.{KindsOf}
use Rattle.kinds.specs.Numbered.{Numbers, Kept, AreSound, entries_by, entries_in}
use Rattle.kinds.specs.Renewed.{weight_before, Renews}
use Rattle.kinds.proofs.Renewals.{weight_all, renewed_entries, renewed_sound}
use Rattle.kinds.proofs.map.KindMap.renewed.Goals as goal

pub renewed-requires : goal.renewed-requires
renewed-requires g c =
    let w = g.R.Renewal.weight c.args.renewal.now in
    let kept : Kept g.row.N.Denot = c.args.self.now in
    let all = ap (λ (k : KindsOf g.row.N.Denot). weight_before w k (length k.0)) c.kinds.ensures.all ∙ weight_all w kept.0 kept.1 c.kinds.ensures.sound in
    record { room = omega (arith, all, c.requires.room) }

pub returns-in_err-kinds-clause-at_most : goal.returns-in_err-kinds-clause-at_most
returns-in_err-kinds-clause-at_most g c =
    let w = g.R.Renewal.weight c.args.renewal.now in
    let kept : Kept g.row.N.Denot = c.args.self.now in
    let all = ap (λ (k : KindsOf g.row.N.Denot). weight_before w k (length k.0)) c.kinds.ensures.all ∙ weight_all w kept.0 kept.1 c.kinds.ensures.sound in
    omega (arith, all, c.renewed.ensures.at_most)

pub returns-in_err-numbers-clause-at_most : goal.returns-in_err-numbers-clause-at_most
returns-in_err-numbers-clause-at_most g c =
    let w = g.R.Renewal.weight c.args.renewal.now in
    let kept : Kept g.row.N.Denot = c.args.self.now in
    let all = ap (λ (k : KindsOf g.row.N.Denot). weight_before w k (length k.0)) c.kinds.ensures.all ∙ weight_all w kept.0 kept.1 c.kinds.ensures.sound in
    omega (arith, all, c.in_ok-kinds.ensures.at_most)

pub returns-in_err-map-clause-at_most : goal.returns-in_err-map-clause-at_most
returns-in_err-map-clause-at_most g c =
    let w = g.R.Renewal.weight c.args.renewal.now in
    let kept : Kept g.row.N.Denot = c.args.self.now in
    let all = ap (λ (k : KindsOf g.row.N.Denot). weight_before w k (length k.0)) c.kinds.ensures.all ∙ weight_all w kept.0 kept.1 c.kinds.ensures.sound in
    omega (arith, all, c.in_ok-kinds.ensures.at_most)

pub of-requires : goal.of-requires
of-requires g c =
    let f = g.R.Renewal.renewed c.args.renewal.now in
    let kept : Kept g.row.N.Denot = c.args.self.now in
    let renews : Renews f kept.0 c.in_ok-kinds.kinds = subst (λ (k : KindsOf g.row.N.Denot). Renews f k c.in_ok-kinds.kinds) c.kinds.ensures.all c.in_ok-kinds.ensures.renews in
    let numbers : c.in_ok-numbers.numbers ≡ kept.1 = c.in_ok-numbers.ensures ∙ c.numbers.ensures.all in
    subst (λ (ns : Numbers). AreSound c.in_ok-kinds.kinds ns) (sym numbers) (renewed_sound f kept.0 c.in_ok-kinds.kinds kept.1 c.kinds.ensures.sound renews)

pub returns-clause-entries : goal.returns-clause-entries
returns-clause-entries g c =
    let f = g.R.Renewal.renewed c.args.renewal.now in
    let kept : Kept g.row.N.Denot = c.args.self.now in
    let renews : Renews f kept.0 c.in_ok-kinds.kinds = subst (λ (k : KindsOf g.row.N.Denot). Renews f k c.in_ok-kinds.kinds) c.kinds.ensures.all c.in_ok-kinds.ensures.renews in
    let numbers : c.in_ok-numbers.numbers ≡ kept.1 = c.in_ok-numbers.ensures ∙ c.numbers.ensures.all in
    ap (λ (m : Kept g.row.M.Denot). entries_in m) c.in_ok-map.ensures
    ∙ ap (entries_by c.in_ok-kinds.kinds) numbers
    ∙ renewed_entries f kept.0 c.in_ok-kinds.kinds kept.1 c.kinds.ensures.sound renews

pub returns-clause-exact : goal.returns-clause-exact
returns-clause-exact g c = λ is.
    let w = g.R.Renewal.weight c.args.renewal.now in
    let kept : Kept g.row.N.Denot = c.args.self.now in
    let all = ap (λ (k : KindsOf g.row.N.Denot). weight_before w k (length k.0)) c.kinds.ensures.all ∙ weight_all w kept.0 kept.1 c.kinds.ensures.sound in
    let exact = c.in_ok-kinds.ensures.exact is in
    omega (arith, all, exact)

pub returns-clause-at_most : goal.returns-clause-at_most
returns-clause-at_most g c =
    let w = g.R.Renewal.weight c.args.renewal.now in
    let kept : Kept g.row.N.Denot = c.args.self.now in
    let all = ap (λ (k : KindsOf g.row.N.Denot). weight_before w k (length k.0)) c.kinds.ensures.all ∙ weight_all w kept.0 kept.1 c.kinds.ensures.sound in
    omega (arith, all, c.in_ok-kinds.ensures.at_most)

pub returns-clause-kinds : goal.returns-clause-kinds
returns-clause-kinds g c =
    let f = g.R.Renewal.renewed c.args.renewal.now in
    let kept : Kept g.row.N.Denot = c.args.self.now in
    let renews : Renews f kept.0 c.in_ok-kinds.kinds = subst (λ (k : KindsOf g.row.N.Denot). Renews f k c.in_ok-kinds.kinds) c.kinds.ensures.all c.in_ok-kinds.ensures.renews in
    subst (λ (m : Kept g.row.M.Denot). Renews f kept.0 m.0) (sym c.in_ok-map.ensures) renews

pub returns-clause-paths : goal.returns-clause-paths
returns-clause-paths g c = ap (λ (m : Kept g.row.M.Denot). m.1) c.in_ok-map.ensures ∙ c.in_ok-numbers.ensures ∙ c.numbers.ensures.all
