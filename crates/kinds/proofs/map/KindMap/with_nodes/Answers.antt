use Rattle.std.proofs.Common.{◌≡◌, List, Option, sym, ap, subst, ◌∙◌}
use Rattle.kinds.specs.Kinds.{KindsOf}
use Rattle.kinds.specs.Numbered.{Numbers, Kept, AreSound, entries_by, entries_in}
use Rattle.kinds.specs.Renewed.{Renews}
use Rattle.kinds.specs.Given.{shared_nodes}
use Rattle.kinds.proofs.Renewals.{renewed_entries, renewed_sound}
use Rattle.kinds.proofs.GivenNodes.{given_sound, entries_given}
use Rattle.kinds.proofs.map.KindMap.with_nodes.Goals as goal

pub of-requires : goal.of-requires
of-requires g c =
    let kept : Kept g.row.N.Denot = c.args.self.now in
    let nodes : List (Option g.row.M.Denot) = shared_nodes c.args.nodes.now in
    let renews : Renews (λ x. x) (nodes, kept.0.1) c.in_ok-kinds.kinds =
    subst (λ (k : KindsOf g.row.N.Denot). Renews (λ x. x) (nodes, k.1) c.in_ok-kinds.kinds) c.kinds.ensures.all c.in_ok-kinds.ensures in
    let numbers : c.in_ok-numbers.numbers ≡ kept.1 = c.in_ok-numbers.ensures ∙ c.numbers.ensures.all in
    subst (λ (ns : Numbers). AreSound c.in_ok-kinds.kinds ns) (sym numbers)
    (renewed_sound (λ x. x) (nodes, kept.0.1) c.in_ok-kinds.kinds kept.1 (given_sound kept.0 nodes kept.1 c.kinds.ensures.sound c.requires.used) renews)

pub returns-clause-entries : goal.returns-clause-entries
returns-clause-entries g c =
    let kept : Kept g.row.N.Denot = c.args.self.now in
    let nodes : List (Option g.row.M.Denot) = shared_nodes c.args.nodes.now in
    let renews : Renews (λ x. x) (nodes, kept.0.1) c.in_ok-kinds.kinds =
    subst (λ (k : KindsOf g.row.N.Denot). Renews (λ x. x) (nodes, k.1) c.in_ok-kinds.kinds) c.kinds.ensures.all c.in_ok-kinds.ensures in
    let numbers : c.in_ok-numbers.numbers ≡ kept.1 = c.in_ok-numbers.ensures ∙ c.numbers.ensures.all in
    ap (λ (m : Kept g.row.M.Denot). entries_in m) c.in_ok-map.ensures
    ∙ ap (entries_by c.in_ok-kinds.kinds) numbers
    ∙ renewed_entries (λ x. x) (nodes, kept.0.1) c.in_ok-kinds.kinds kept.1 (given_sound kept.0 nodes kept.1 c.kinds.ensures.sound c.requires.used) renews
    ∙ entries_given nodes kept.0.1 kept.1

pub returns-clause-paths : goal.returns-clause-paths
returns-clause-paths g c = ap (λ (m : Kept g.row.M.Denot). m.1) c.in_ok-map.ensures ∙ c.in_ok-numbers.ensures ∙ c.numbers.ensures.all
