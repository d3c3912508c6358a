use Rattle.std.proofs.Common.{◌++◌, ◌∙◌, List, codes, subst₂}
use Rattle.acl_entry.specs.Perms.{Perms}
use Rattle.acl_names.specs.Appends.{Appends}
use Rattle.facl_answers.specs.ChangesText.{change_line}
use Rattle.acl_text.proofs.Appending.{appends_both}
use Rattle.facl_answers.proofs.change_lines.push_user.Goals as goal

pub returns : goal.returns
returns c =
    let line = change_line c.args.path.now c.args.user.now in
    let gained = c.deref.ensures.value ∙ c.in_ok-gained.ensures in
    let lost = c.deref-2.ensures.value ∙ c.in_ok-lost.ensures in
    subst₂ (λ (some more : List Perms). Appends c.push_line-2.result c.args.text.now c.push_line-2.new.text (line (codes "gains") some ++ line (codes "loses") more)) gained lost
    (appends_both c.push_line-2.result c.args.text.now c.push_line.new.text c.push_line-2.new.text (line (codes "gains") c.deref.result.now)
    (line (codes "loses") c.deref-2.result.now) c.in_ok-push_line.ensures c.push_line-2.ensures)
