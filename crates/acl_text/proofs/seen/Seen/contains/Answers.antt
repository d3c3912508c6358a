use Rattle.std.proofs.Common.{ap, ◌∙◌, map}
use Rattle.std.specs.Ordering.{is_eq}
use Rattle.acl_names.specs.Paths.{path_cmp}
use Rattle.acl_text.proofs.SeenPaths.{any_same, by_bytes}
use Rattle.acl_text.proofs.seen.Seen.contains.Goals as goal

pub returns : goal.returns
returns c =
    c.contains.ensures
    ∙ any_same _ _ c.args.self.now.paths.keys
    (λ k. ap is_eq (by_bytes (λ v. v.items) c.as_slice.result.now k.items
    ∙ ap (λ p. path_cmp p (map (λ v. v.items) k.items)) (ap (λ l. map (λ v. v.items) l) c.as_slice.ensures.value ∙ c.in_ok-components.ensures)))
