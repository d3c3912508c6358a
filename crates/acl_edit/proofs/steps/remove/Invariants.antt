use Rattle.std.proofs.Common.{◌≡◌, drop, filter}
use Rattle.acl_edit.specs.Parts.{is_for}
use Rattle.acl_edit.specs.Steps.{remove}
use Rattle.acl_edit.proofs.steps.remove.Given as goal

abbrev pub invariant-loop-spec : goal.invariant-loop-spec
invariant-loop-spec l =
    remove (filter (is_for l.scope.as_default l.scope.which) (drop l.spec-index l.specs)) l.draft
    ≡ remove (filter (is_for l.scope.as_default l.scope.which) l.specs) l.initial.draft
