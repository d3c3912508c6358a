use Rattle.std.proofs.Common.{sym, ap, subst}
use Rattle.std.specs.List.{zip, flat_map}
use Rattle.path_map.specs.Entries.{IsInOrder}
use Rattle.path_map.proofs.Chunks.{in_order-right}
use Rattle.path_map.proofs.builder.push_chunk.Goals as goal

pub new-chunk-requires-clause-order : goal.new-chunk-requires-clause-order
new-chunk-requires-clause-order g c =
    subst IsInOrder (ap (λ l. zip l c.args.values.items) (sym (ap (λ v. v.items) c.in_ok-new.ensures.ok)))
    (in_order-right (flat_map (λ c. c.value) c.args.chunks.now.items) (zip c.args.paths.items c.args.values.items) c.requires.gathered.order)
