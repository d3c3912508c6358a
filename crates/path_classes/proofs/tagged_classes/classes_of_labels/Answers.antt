use Rattle.std.proofs.Common.{ℕ, List, ap, ◌∙◌, is_some}
use Rattle.kinds.specs.Tagged.{meets, tags_at}
use Rattle.path_classes.specs.declared.path_class.PathClass.{PathClass}
use Rattle.path_classes.specs.PathClasses.{ClassKinds}
use Rattle.path_classes.specs.ClassTags.{class_tags}
use Rattle.path_classes.proofs.ClassTags.{tagged_labels}
use Rattle.path_classes.proofs.tagged_classes.classes_of_labels.Goals as goal

pub returns-clause-exact : goal.returns-clause-exact
returns-clause-exact c =
    let k : ClassKinds = c.args.classes.now.0 in
    tagged_labels k c.args.labels.now c.in_ok-numbers.numbers.items
    (λ m. c.in_ok-numbers.ensures.exact m ∙ ap (λ (ts : List ℕ). meets (tags_at (λ (c : PathClass). class_tags (is_some c.search) c.above c.kind) k m) ts)
    (c.deref.ensures.value ∙ c.in_ok-tags.ensures))
