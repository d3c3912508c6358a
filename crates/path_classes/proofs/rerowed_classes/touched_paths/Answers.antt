use Rattle.std.proofs.Common.{◌≡◌, ◌+◌, ◌&&◌, ℕ, Bool, List, false, not, sym, ap, subst, ◌∙◌}
use Rattle.std.specs.Prelude.{count_by}
use Rattle.std.specs.List.Sorted.{IsStrictlyIncreasing}
use Rattle.std.specs.Option.{option_map_or}
use Rattle.acl_names.specs.Paths.{PathOf}
use Rattle.kinds.specs.Given.{used_at}
use Rattle.kinds.specs.Numbered.{Numbers}
use Rattle.path_classes.specs.PathClasses.{ClassKinds, kind_at}
use Rattle.path_classes.specs.FoundClasses.{is_below_some}
use Rattle.path_classes.specs.Renewing.{is_one}
use Rattle.path_classes.proofs.Touched.{count_kinds, count_either}
use Rattle.path_classes.proofs.rerowed_classes.touched_paths.Goals as goal

pub paths_numbered-requires-2 : goal.paths_numbered-requires-2
paths_numbered-requires-2 c = subst IsStrictlyIncreasing (sym c.deref-2.ensures.value) c.in_ok-others.ensures.rising

pub returns : goal.returns
returns c =
    let k : ClassKinds = c.args.classes.now.0 in
    let ns : Numbers = c.args.classes.now.1 in
    let labels : List ℕ = c.args.labels.now in
    let is_below : ℕ → Bool = λ n. option_map_or (is_below_some c.args.above.now) (used_at k n) false in
    let labelled : c.in_ok-labelled.labelled ≡ count_by (λ (e : PathOf × ℕ). is_one (kind_at k e.1) labels) ns =
    c.in_ok-labelled.ensures ∙ ap (count_by (λ (e : PathOf × ℕ). is_one e.1 labels)) (sym c.requires.kinds) ∙ count_kinds (λ m. is_one m labels) (kind_at k) ns in
    let each : (n : ℕ) → is_one n c.deref-2.result.now ≡ (is_below n && not (is_one (kind_at k n) labels)) =
    λ n.
    ap (is_one n) c.deref-2.ensures.value
    ∙ c.in_ok-others.ensures.exact n
    ∙ (λ i. is_one n (c.deref.ensures.value i) && not (is_one (kind_at (c.kinds.ensures.all i) n) labels))
    ∙ ap (λ b. b && not (is_one (kind_at k n) labels)) (c.in_ok-below.ensures n) in
    let more : c.in_ok-more.more ≡ count_by (λ (e : PathOf × ℕ). is_below e.1 && not (is_one (kind_at k e.1) labels)) ns =
    c.in_ok-more.ensures ∙ (λ i. count_by (λ (e : PathOf × ℕ). each e.1 i) (c.map.ensures i).1) in
    c.in-Some.ensures.1 ∙ (λ i. labelled i + more i) ∙ count_either (λ n. is_one (kind_at k n) labels) is_below ns
