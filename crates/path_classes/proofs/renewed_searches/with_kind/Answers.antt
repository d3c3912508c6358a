use Rattle.std.proofs.Common.{◌≡◌, Bool, List, Option, Some, sym, ap, subst, ◌∙◌}
use Rattle.kinds.specs.Kinds.{node_at, IsNode}
use Rattle.kinds.specs.Numbered.{Kept, Numbers, AreSound}
use Rattle.path_classes.specs.declared.path_class.PathClass.{PathClass}
use Rattle.path_classes.specs.PathClasses.{ClassKinds}
use Rattle.kinds.specs.Renumbered.{Replaces}
use Rattle.path_classes.proofs.Relabelled.{has_kind, sound_kind}
use Rattle.path_classes.proofs.renewed_searches.with_kind.Goals as goal

pub node-class-requires : goal.node-class-requires
node-class-requires c = subst (λ (k : ClassKinds). IsNode k c.args.number) (sym c.kinds-classes.ensures.all) c.requires

pub with_node-requires : goal.with_node-requires
with_node-requires c =
    subst (λ (k : ClassKinds). IsNode k c.args.number) (sym (c.in_ok-share.ensures ∙ c.kinds-classes.ensures.all)) c.requires

pub of-requires : goal.of-requires
of-requires c =
    let before : Kept PathClass = c.args.before.now in
    let x : PathClass = c.in_ok-new.new.value in
    let k : ClassKinds = c.in_ok-changed.changed in
    let r : Replaces before.0 x c.args.number k = subst (λ (l : ClassKinds). Replaces l x c.args.number k) (c.in_ok-share.ensures ∙ c.kinds-classes.ensures.all) c.in_ok-changed.ensures in
    subst (λ (ns : Numbers). AreSound k ns) (sym (c.in_ok-share-2.ensures ∙ c.numbers-numbers.ensures.all)) (sound_kind before c.args.number x k c.numbers-numbers.ensures.sound r)

pub returns : goal.returns
returns c =
    let before : Kept PathClass = c.args.before.now in
    let class : PathClass = c.node-class.result.now in
    let x : PathClass = c.in_ok-new.new.value in
    let k : ClassKinds = c.in_ok-changed.changed in
    let r : Replaces before.0 x c.args.number k = subst (λ (l : ClassKinds). Replaces l x c.args.number k) (c.in_ok-share.ensures ∙ c.kinds-classes.ensures.all) c.in_ok-changed.ensures in
    let is : node_at before.0 c.args.number ≡ Some class = ap (λ (l : ClassKinds). node_at l c.args.number) (sym c.kinds-classes.ensures.all) ∙ c.node-class.ensures in
    let made : x ≡ record class { kind = c.args.kind } =
    subst (λ (s : Option (List Bool)). x ≡ record { kind = c.args.kind; above = class.above; depth = class.depth; search = s }) c.in_ok-search.ensures c.in_ok-new.ensures.ok in
    has_kind before c.in_ok-map.map c.args.number c.args.kind class x k is made r
    (c.in_ok-map.ensures ∙ ap (λ (ns : Numbers). (k, ns)) (c.in_ok-share-2.ensures ∙ c.numbers-numbers.ensures.all))
