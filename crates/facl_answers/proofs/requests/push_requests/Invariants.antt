use Rattle.std.proofs.Common.{◌≡◌, ◌++◌, take}
use Rattle.facl_answers.proofs.Spaced.{spaced, is_empty, among}
use Rattle.facl_answers.proofs.requests.push_requests.Given as goal

abbrev pub invariant-loop-number : goal.invariant-loop-number
invariant-loop-number l = record {
  text : l.text.items ≡ l.initial.text.items ++ spaced (among l.granted (take l.number-index l.number-items));
  first : l.is_first ≡ is_empty (among l.granted (take l.number-index l.number-items));
}
