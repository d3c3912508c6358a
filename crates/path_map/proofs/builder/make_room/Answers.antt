use Rattle.std.proofs.Common.{sym, ap, subst, ◌∙◌}
use Rattle.path_map.specs.Entries.{IsInOrder}
use Rattle.path_map.proofs.Gathered.{none_left, chunks_order}
use Rattle.path_map.proofs.builder.make_room.Goals as goal

pub returns-in_err-push_chunk-clause-gathered : goal.returns-in_err-push_chunk-clause-gathered
returns-in_err-push_chunk-clause-gathered g c =
    none_left _ _ _ (subst IsInOrder (sym c.in_err-push_chunk.ensures.kept) (chunks_order _ _ _ c.requires))
    (ap (λ v. v.items) c.replace.ensures.after ∙ c.in_ok-no_paths.ensures.items)
    (ap (λ v. v.items) c.replace-2.ensures.after ∙ c.in_ok-no_values.ensures.items)
