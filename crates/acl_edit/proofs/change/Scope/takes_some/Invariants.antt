use Rattle.std.proofs.Common.{◌≡◌, drop, filter}
use Rattle.acl_edit.specs.Parts.{is_given, is_for}
use Rattle.acl_edit.proofs.change.Scope.takes_some.Given as goal

abbrev pub invariant-loop-spec : goal.invariant-loop-spec
invariant-loop-spec l =
    is_given (filter (is_for l.self.as_default l.self.which) (drop l.spec-index l.specs))
    ≡ is_given (filter (is_for l.self.as_default l.self.which) l.specs)
