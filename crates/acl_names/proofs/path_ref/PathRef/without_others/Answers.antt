use Rattle.std.proofs.Common.{◌≡◌, sym, ap, ◌∙◌, false}
use Rattle.acl_names.specs.Below.{encloses, common}
use Rattle.acl_names.proofs.Tops.{common_of_parent}
use Rattle.acl_names.proofs.path_ref.PathRef.without_others.Goals as goal

pub loop-preserved : goal.loop-preserved
loop-preserved c =
    let other = c.args.other.now in
    let out : encloses c.loop.top other ≡ false = sym c.encloses.ensures ∙ c.if-encloses.false in
    ap (λ p. common p other) c.parent-top.ensures ∙ common_of_parent c.loop.top other out ∙ c.loop.invariant
