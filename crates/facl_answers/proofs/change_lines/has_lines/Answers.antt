use Rattle.std.proofs.Common.{◌≡◌, Bool, true, false, not, refl, sym, ap, ◌∙◌}
use Rattle.facl_answers.specs.Inner.{lines_between}
use Rattle.facl_answers.proofs.BothLines.{none_differs, same_rows}
use Rattle.facl_answers.proofs.change_lines.has_lines.Goals as goal

holds : (b : Bool) → not b ≡ false → b ≡ true
holds true h = refl
holds false h = absurd (cc h)

pub returns-then-users : goal.returns-then-users
returns-then-users c h path =
    let same = c.same_row.ensures.0 (holds c.same_row.result h) in
    ap (λ row. lines_between c.args.users.now.list.now path row c.args.after.now) same ∙ same_rows c.args.users.now.list.now (c.requires c.if-users.true) path c.args.after.now

pub returns-else-users : goal.returns-else-users
returns-else-users c h path = none_differs c.args.users.now.list.now c.args.before.now c.args.after.now (sym c.some_differs.ensures ∙ h) path
