use Rattle.std.proofs.lemmas.Grind.{common_steps}
use Rattle.std.proofs.Common.{◌++◌, map, sym, ap, subst, ◌∙◌, arith}
use Rattle.std.specs.List.{flat_map}
use Rattle.path_map.specs.Entries.{IsInOrder, seen}
use Rattle.path_map.specs.Changed.{with_values}
use Rattle.path_map.proofs.Each.{in_order-each}
use Rattle.path_map.proofs.remap.BranchRemap.replaced.Goals as goal

pub with-requires-clause-order : goal.with-requires-clause-order
with-requires-clause-order g c =
    subst IsInOrder
    (sym (c.in_ok-push_replaced.ensures.entries
    ∙ ap (λ l. flat_map (λ c. g.P.Part.entries_of c.value) l ++ with_values (map seen c.args.puts.now) (flat_map (λ c. g.P.Part.entries_of c.value) c.parts-2.result.now)) c.in_ok-parts.ensures.items
    ∙ ap (λ es. with_values (map seen c.args.puts.now) es) c.parts-2.ensures.all))
    (in_order-each _ c.args.self.now c.parts.ensures.order)

pub with-requires-clause-entries : goal.with-requires-clause-entries
with-requires-clause-entries g c = grind (arith, common_steps)

pub with-requires-clause-few : goal.with-requires-clause-few
with-requires-clause-few g c = grind (arith, common_steps)

pub returns-clause-part : goal.returns-clause-part
returns-clause-part g c = grind (arith, common_steps)

pub returns-clause-was : goal.returns-clause-was
returns-clause-was g c = grind (arith, common_steps)
