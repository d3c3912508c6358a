use Rattle.std.proofs.Common.{◌≡◌, ◌+◌, ◌≤◌, length, drop, filter}
use Rattle.acl_edit.specs.Parts.{is_for}
use Rattle.acl_edit.specs.Rooms.{size}
use Rattle.acl_edit.specs.Steps.{modify}
use Rattle.acl_edit.proofs.steps.modify.Given as goal

abbrev pub invariant-loop-spec : goal.invariant-loop-spec
invariant-loop-spec l = record {
  put : modify l.x (filter (is_for l.scope.as_default l.scope.which) (drop l.spec-index l.specs)) l.draft
      ≡ modify l.x (filter (is_for l.scope.as_default l.scope.which) l.specs) l.initial.draft;
  room : size l.draft + length (filter (is_for l.scope.as_default l.scope.which) (drop l.spec-index l.specs))
      ≤ size l.initial.draft + length (filter (is_for l.scope.as_default l.scope.which) l.specs);
}
