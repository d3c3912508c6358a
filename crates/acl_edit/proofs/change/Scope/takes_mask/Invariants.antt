use Rattle.std.proofs.Common.{◌≡◌, drop, filter}
use Rattle.std.specs.List.{list_any}
use Rattle.acl_edit.specs.Parts.{is_of_mask, is_for}
use Rattle.acl_edit.proofs.change.Scope.takes_mask.Given as goal

abbrev pub invariant-loop-spec : goal.invariant-loop-spec
invariant-loop-spec l =
    list_any is_of_mask (filter (is_for l.self.as_default l.self.which) (drop l.spec-index l.specs))
    ≡ list_any is_of_mask (filter (is_for l.self.as_default l.self.which) l.specs)
