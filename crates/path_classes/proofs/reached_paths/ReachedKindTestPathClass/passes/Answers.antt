use Rattle.std.proofs.Common.{◌≡◌, ◌&&◌, true, false, sym, ap, ◌∙◌}
use Rattle.path_classes.specs.Rows.{grants}
use Rattle.path_classes.specs.PathClasses.{search_above}
use Rattle.path_classes.specs.Searching.{gets_through}
use Rattle.path_classes.proofs.NumberedRows.{granted_here}
use Rattle.path_classes.proofs.reached_paths.ReachedKindTestPathClass.passes.Goals as goal

pub returns-then-row_grants : goal.returns-then-row_grants
returns-then-row_grants c =
    let some = c.args.self.now in
    let class = c.args.class.now in
    let granted : grants some.request some.user c.in-Some.node.now.row ≡ true = sym c.row_grants.ensures ∙ c.if-row_grants.true in
    c.passes_above.ensures
    ∙ ap (λ b. b && gets_through (search_above some.classes.now class.above) some.user) (sym granted)
    ∙ sym (granted_here some.labels.now some.classes.now some.request some.user class c.in-Some.node.now (sym c.in-Some.ensures))

pub returns-else-row_grants : goal.returns-else-row_grants
returns-else-row_grants c =
    let some = c.args.self.now in
    let class = c.args.class.now in
    let granted : grants some.request some.user c.in-Some.node.now.row ≡ false = sym c.row_grants.ensures ∙ c.if-row_grants.false in
    c.if-row_grants.false
    ∙ ap (λ b. b && gets_through (search_above some.classes.now class.above) some.user) (sym granted)
    ∙ sym (granted_here some.labels.now some.classes.now some.request some.user class c.in-Some.node.now (sym c.in-Some.ensures))
