use Rattle.std.proofs.Common.{◌++◌, map, sym, ap, subst, ◌∙◌}
use Rattle.std.specs.List.{flat_map}
use Rattle.path_map.specs.Entries.{IsInOrder, seen}
use Rattle.path_map.specs.Merged.{merged}
use Rattle.path_map.proofs.Merges.{in_order-merged}
use Rattle.path_map.proofs.merge.BranchMerge.push_merged.Goals as goal

pub push_branches-requires : goal.push_branches-requires
push_branches-requires g c =
    let puts = map seen c.args.puts.now in
    let gone = map seen c.args.gone.now in
    subst IsInOrder
    (sym (c.in_ok-merge_parts.ensures
    ∙ ap (λ l. flat_map (λ c. g.P.Part.entries_of c.value) l ++ merged puts gone (flat_map (λ c. g.P.Part.entries_of c.value) c.parts-2.result.now)) c.in_ok-parts.ensures.items
    ∙ ap (λ es. merged puts gone es) c.parts-2.ensures.all))
    (in_order-merged puts gone c.args.self.now c.parts.ensures.order)
