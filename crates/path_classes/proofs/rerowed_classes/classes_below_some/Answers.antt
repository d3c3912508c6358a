use Rattle.std.proofs.Common.{◌≡◌, ◌++◌, ℕ, List, map, ap, ◌∙◌, is_some}
use Rattle.kinds.specs.Tagged.{meets, tags_at}
use Rattle.path_classes.specs.declared.path_class.PathClass.{PathClass}
use Rattle.path_classes.specs.PathClasses.{ClassKinds}
use Rattle.path_classes.specs.ClassTags.{below_tag, class_tags}
use Rattle.path_classes.proofs.ClassTags.{tagged_below_some}
use Rattle.path_classes.proofs.rerowed_classes.classes_below_some.Goals as goal

pub returns : goal.returns
returns c =
    let k : ClassKinds = c.args.classes.now.0 in
    let above : List ℕ = c.args.above.now in
    let tags : c.deref.result.now ≡ map below_tag above =
    c.deref.ensures.value ∙ c.in_ok-push_below_tags.ensures ∙ ap (λ (l : List ℕ). l ++ map below_tag above) c.in_ok-tags.ensures.items in
    tagged_below_some k above c.in_ok-numbers.numbers.items
    (λ m. c.in_ok-numbers.ensures.exact m ∙ ap (λ (ts : List ℕ). meets (tags_at (λ (c : PathClass). class_tags (is_some c.search) c.above c.kind) k m) ts) tags)
