use Rattle.std.proofs.Common.{◌≡◌, ◌++◌, take}
use Rattle.facl_answers.specs.WhyText.{why_text}
use Rattle.facl_answers.proofs.why.push_records.Given as goal

abbrev pub invariant-loop-file : goal.invariant-loop-file
invariant-loop-file g l = l.text.items ≡ l.initial.text.items ++ why_text (g.N.Names.naming l.names) g.J.Judge.decider_of l.subject (take l.file-index l.files)
