use Rattle.std.proofs.Common.{ℕ, List, map, sym, subst}
use Rattle.path_map.specs.Entries.{seen}
use Rattle.kinds.specs.Numbered.{Numbers}
use Rattle.kinds.specs.Counted.{CountsPaths, AreNodes, GrantsEach}
use Rattle.kinds.proofs.ByNumber.{are_nodes, counts_each}
use Rattle.kinds.proofs.counted.count_each.Goals as goal

pub grant_each-requires : goal.grant_each-requires
grant_each-requires g c =
    subst (λ (table : List ℕ). AreNodes c.args.kinds table) (sym c.deref.ensures.value)
    (are_nodes c.args.kinds (map seen c.args.entries.now) c.len.result c.in_ok-counts.counts.items c.requires c.in_ok-counts.ensures)

pub returns : goal.returns
returns g c =
    let k = c.args.kinds in
    let es : Numbers = map seen c.args.entries.now in
    let table = c.in_ok-counts.counts.items in
    counts_each k c.in_ok-kinds.kinds es table c.requires
    (subst (λ n. CountsPaths n es table) c.len.ensures.nodes c.in_ok-counts.ensures)
    (subst (λ (l : List ℕ). GrantsEach k l c.in_ok-kinds.kinds) c.deref.ensures.value c.in_ok-kinds.ensures)
