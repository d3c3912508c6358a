use Rattle.std.proofs.Common.{◌≡◌, sym, ap, subst, ◌∙◌}
use Rattle.path_map.specs.Entries.{IsInOrder}
use Rattle.kinds.specs.Numbered.{Numbers, Kept, AreSound, entries_by, entries_in}
use Rattle.kinds.proofs.InTurn.{entries_built, sound_built}
use Rattle.kinds.proofs.builder.KindMapBuilder.finish.Goals as goal

pub of-requires : goal.of-requires
of-requires g c =
    let was = c.self.inside.numbering in
    let numbers : c.in_ok-numbers.numbers ≡ c.self.inside.numbers = c.in_ok-numbers.ensures in
    subst (λ (ns : Numbers). AreSound c.in_ok-kinds.kinds ns) (sym numbers)
    (sound_built was.kinds c.in_ok-kinds.kinds c.self.inside.numbers was.last was.pending c.self.invariant c.in_ok-kinds.ensures (subst (λ (ns : Numbers). IsInOrder ns) numbers c.order_law.ensures))

pub returns : goal.returns
returns g c =
    let was = c.self.inside.numbering in
    ap (λ (m : Kept g.row.N.Denot). entries_in m) c.in_ok-map.ensures
    ∙ ap (entries_by c.in_ok-kinds.kinds) c.in_ok-numbers.ensures
    ∙ entries_built was.kinds c.in_ok-kinds.kinds c.self.inside.numbers was.last was.pending c.self.invariant c.in_ok-kinds.ensures
    ∙ c.self.view_is
