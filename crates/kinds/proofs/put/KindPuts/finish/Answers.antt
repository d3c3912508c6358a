use Rattle.std.proofs.Common.{List, map, sym, ap, subst, ◌∙◌}
use Rattle.acl_names.specs.Paths.{PathOf}
use Rattle.path_map.specs.Entries.{IsInOrder, seen}
use Rattle.path_map.specs.Merged.{put_all}
use Rattle.kinds.specs.Kinds.{KindsOf}
use Rattle.kinds.specs.Numbered.{Numbers, entries_by, entries_in}
use Rattle.kinds.specs.Counted.{AddsUncounted}
use Rattle.kinds.proofs.put.KindPuts.finish.Goals as goal

pub put_numbered-requires-clause-added : goal.put_numbered-requires-clause-added
put_numbered-requires-clause-added g c =
    let k0 = c.self.inside.before.now.0 in
    let was = c.self.inside.numbering in
    subst (λ (k : KindsOf g.row.N.Denot). AddsUncounted k0 k (map seen c.deref.result.now)) (sym c.into_kinds.ensures)
    (subst (λ (es : Numbers). AddsUncounted k0 was.kinds es) (sym (ap (map seen) c.deref.ensures.value)) c.self.invariant)

pub put_numbered-requires-clause-order : goal.put_numbered-requires-clause-order
put_numbered-requires-clause-order g c =
    let was = c.self.inside.numbering in
    subst (λ (k : KindsOf g.row.N.Denot). IsInOrder (entries_by k (map seen c.deref.result.now))) (sym c.into_kinds.ensures)
    (subst (λ (es : Numbers). IsInOrder (entries_by was.kinds es)) (sym (ap (map seen) c.deref.ensures.value))
    (subst (λ (s : List (PathOf × g.row.N.Denot) × List (PathOf × g.row.N.Denot)). IsInOrder s.1) (sym c.self.view_is) c.requires))

pub returns : goal.returns
returns g c =
    let was = c.self.inside.numbering in
    c.in_ok-map.ensures.entries
    ∙ ap (λ (k : KindsOf g.row.N.Denot). put_all (entries_by k (map seen c.deref.result.now)) (entries_in c.self.inside.before.now)) c.into_kinds.ensures
    ∙ ap (λ (es : Numbers). put_all (entries_by was.kinds es) (entries_in c.self.inside.before.now)) (ap (map seen) c.deref.ensures.value)
    ∙ ap (λ (s : List (PathOf × g.row.N.Denot) × List (PathOf × g.row.N.Denot)). put_all s.1 s.0) c.self.view_is
