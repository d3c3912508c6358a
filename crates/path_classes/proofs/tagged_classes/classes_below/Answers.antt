use Rattle.std.proofs.Common.{ℕ, List, ◌∷◌, [], ap, ◌∙◌, is_some}
use Rattle.kinds.specs.Tagged.{meets, tags_at}
use Rattle.path_classes.specs.declared.path_class.PathClass.{PathClass}
use Rattle.path_classes.specs.PathClasses.{ClassKinds}
use Rattle.path_classes.specs.ClassTags.{class_tags}
use Rattle.path_classes.proofs.ClassTags.{tagged_below, are_below}
use Rattle.path_classes.proofs.tagged_classes.classes_below.Goals as goal

pub returns : goal.returns
returns c =
    let k : ClassKinds = c.args.classes.now.0 in
    let below : List ℕ = c.in_ok-numbers.numbers.items in
    are_below k c.args.above below c.in_ok-numbers.ensures.rising
    (tagged_below k c.args.above below
    (λ m. c.in_ok-numbers.ensures.exact m ∙ ap (λ t. meets (tags_at (λ (c : PathClass). class_tags (is_some c.search) c.above c.kind) k m) (t ∷ [])) c.in_ok-tag.ensures))
