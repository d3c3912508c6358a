use Rattle.std.proofs.Common.{◌≡◌, map, sym, ap, subst, ◌∙◌}
use Rattle.path_map.specs.Entries.{IsInOrder, seen}
use Rattle.kinds.specs.Kinds.{node_at}
use Rattle.kinds.specs.Numbered.{Numbers, Kept, AreSound}
use Rattle.kinds.proofs.OtherNumbers.{order_same, values_all, sound_counted}
use Rattle.kinds.proofs.map.KindMap.renumbered.Goals as goal

pub with_values-requires : goal.with_values-requires
with_values-requires g c = order_same c.args.paths.now (map seen c.args.entries.now) c.requires.paths c.order_law.ensures

pub of-requires : goal.of-requires
of-requires g c =
    let es : Numbers = map seen c.args.entries.now in
    let order : IsInOrder es = order_same c.args.paths.now es c.requires.paths c.order_law.ensures in
    let numbers : c.in_ok-numbers.numbers ≡ es = c.in_ok-numbers.ensures ∙ values_all c.args.paths.now es c.requires.paths order in
    subst (λ (ns : Numbers). AreSound c.in_ok-kinds.kinds ns) (sym numbers)
    (sound_counted c.args.kinds c.in_ok-kinds.kinds es c.requires.used order c.requires.fresh c.in_ok-kinds.ensures)

pub returns : goal.returns
returns g c =
    let es : Numbers = map seen c.args.entries.now in
    let order : IsInOrder es = order_same c.args.paths.now es c.requires.paths c.order_law.ensures in
    let numbers : c.in_ok-numbers.numbers ≡ es = c.in_ok-numbers.ensures ∙ values_all c.args.paths.now es c.requires.paths order in
    record {
      numbers = ap (λ (m : Kept g.row.N.Denot). m.1) c.in_ok-map.ensures ∙ numbers;
      nodes = λ n. ap (λ (m : Kept g.row.N.Denot). node_at m.0 n) c.in_ok-map.ensures ∙ c.in_ok-kinds.ensures.nodes n;
    }
