use Rattle.std.proofs.Common.{◌≡◌, ◌++◌, take}
use Rattle.facl_answers.specs.Inner.{lines_between}
use Rattle.facl_answers.proofs.change_lines.push_rows.Given as goal

abbrev pub invariant-loop-user : goal.invariant-loop-user
invariant-loop-user l = l.text.items ≡ l.initial.text.items ++ lines_between (take l.user-index l.users) l.path l.before l.after
