use Rattle.std.proofs.Common.{◌≡◌, not, take, filter}
use Rattle.acl_entry.specs.Check.{has}
use Rattle.facl_answers.proofs.Spaced.{among}
use Rattle.facl_answers.proofs.change_lines.requests_gained.Given as goal

abbrev pub invariant-loop-number : goal.invariant-loop-number
invariant-loop-number l = l.requests.items ≡ filter (λ q. not (has l.before q)) (among l.after (take l.number-index l.number-items))
