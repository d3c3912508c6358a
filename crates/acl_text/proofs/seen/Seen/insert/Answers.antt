use Rattle.std.proofs.Common.{sym, ap, ◌∙◌, map}
use Rattle.std.specs.Prelude.{◌||◌}
use Rattle.std.specs.List.{list_any}
use Rattle.std.specs.Ordering.{is_eq}
use Rattle.acl_names.specs.Paths.{path_cmp}
use Rattle.acl_names.proofs.PathOrder.{exact_paths}
use Rattle.acl_text.specs.DumpSeen.{has_path}
use Rattle.acl_text.proofs.SeenPaths.{any-insert_key, by_bytes}
use Rattle.acl_text.proofs.seen.Seen.insert.Goals as goal

pub returns : goal.returns
returns c = λ other.
    ap (list_any (λ k. is_eq (path_cmp other (map (λ v. v.items) k.items)))) c.in_ok-insert.ensures.keys
    ∙ any-insert_key _ (λ k. is_eq (path_cmp other (map (λ v. v.items) k.items))) c.in_ok-components.components c.args.self.now.paths.keys
    (λ x tied. ap (λ p. is_eq (path_cmp other p)) (sym (exact_paths _ _ (sym (by_bytes (λ v. v.items) c.in_ok-components.components.items x.items) ∙ tied))))
    ∙ ap (λ p. is_eq (path_cmp other p) || has_path c.args.self.now other) c.in_ok-components.ensures
