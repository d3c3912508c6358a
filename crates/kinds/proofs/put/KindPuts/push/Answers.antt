use Rattle.std.proofs.Common.{◌≡◌, ℕ, [], ◌∷◌, ◌++◌, List, map, sym, ap, subst, ◌∙◌}
use Rattle.std.proofs.lemmas.List.{map-append}
use Rattle.acl_names.specs.Paths.{PathOf}
use Rattle.path_map.specs.Entries.{seen}
use Rattle.kinds.specs.Numbered.{Numbers, entries_by}
use Rattle.kinds.specs.Counted.{AddsUncounted}
use Rattle.kinds.proofs.ByNumber.{entries_more, uncounted_more}
use Rattle.kinds.proofs.put.KindPuts.push.Goals as goal

pub invariant_of-result : goal.invariant_of-result
invariant_of-result g c =
    let k0 = c.self.inside.before.now.0 in
    let was = c.self.inside.numbering in
    let new = c.in_ok-numbering.numbering in
    let old : Numbers = map seen c.self.inside.entries.items in
    let pushed : map (seen {V = ℕ}) c.push.new.self.items ≡ old ++ (c.args.path.now, new.last) ∷ [] =
    ap (map seen) c.in_ok-push.ensures.items ∙ map-append seen c.self.inside.entries.items ((c.args.path, new.last) ∷ []) in
    subst (λ (ns : Numbers). AddsUncounted k0 new.kinds ns) (sym pushed)
    (uncounted_more k0 was.kinds new.kinds old c.args.path.now c.args.node new.last c.self.invariant c.in_ok-numbering.ensures)

pub returns : goal.returns
returns g c =
    let k0 = c.self.inside.before.now.0 in
    let was = c.self.inside.numbering in
    let new = c.in_ok-numbering.numbering in
    let old : Numbers = map seen c.self.inside.entries.items in
    let pushed : map (seen {V = ℕ}) c.push.new.self.items ≡ old ++ (c.args.path.now, new.last) ∷ [] =
    ap (map seen) c.in_ok-push.ensures.items ∙ map-append seen c.self.inside.entries.items ((c.args.path, new.last) ∷ []) in
    let puts : entries_by new.kinds (map seen c.push.new.self.items) ≡ c.args.self.1 ++ (c.args.path.now, c.args.node) ∷ [] =
    ap (entries_by new.kinds) pushed
    ∙ entries_more k0 was.kinds new.kinds old c.args.path.now c.args.node new.last c.self.invariant c.in_ok-numbering.ensures
    ∙ ap (λ (s : List (PathOf × g.row.N.Denot) × List (PathOf × g.row.N.Denot)). s.1 ++ (c.args.path.now, c.args.node) ∷ []) c.self.view_is in
    λ i. ((c.self.view_is i).0, puts i)
