use Rattle.std.proofs.Common.{◌≡◌, ◌++◌, take}
use Rattle.std.specs.List.{flat_map}
use Rattle.facl_answers.specs.ChangesText.{after_comma}
use Rattle.facl_answers.proofs.change_lines.push_more.Given as goal

abbrev pub invariant-loop-request : goal.invariant-loop-request
invariant-loop-request l = l.text.items ≡ l.initial.text.items ++ flat_map after_comma (take l.request-index l.requests)
