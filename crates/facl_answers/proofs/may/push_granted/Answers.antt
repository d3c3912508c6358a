use Rattle.std.proofs.Common.{◌++◌, ℕ, List, [], cond, append-nil, sym, ap, subst, ◌∙◌}
use Rattle.acl_names.specs.Appends.{Appends}
use Rattle.acl_tree.specs.Found.{FoundFile}
use Rattle.facl_answers.specs.Answers.{file_line}
use Rattle.facl_answers.specs.Inner.{rowed_file, walked}
use Rattle.facl_answers.proofs.may.push_granted.Goals as goal

pub returns-then-granted : goal.returns-then-granted
returns-then-granted c =
    let line = file_line (rowed_file (walked c.args.rest.now) c.args.file.now).0 in
    subst (λ (lines : List ℕ). Appends c.push_file.result c.args.text.now c.push_file.new.text lines)
    (ap (λ (found : FoundFile). file_line found) c.found.ensures ∙ ap (λ b. cond b line []) (sym c.if-granted.true)) c.push_file.ensures

pub returns-else-granted : goal.returns-else-granted
returns-else-granted c =
    let line = file_line (rowed_file (walked c.args.rest.now) c.args.file.now).0 in
    sym (append-nil c.args.text.now.items) ∙ ap (λ b. c.args.text.now.items ++ cond b line []) (sym c.if-granted.false)
