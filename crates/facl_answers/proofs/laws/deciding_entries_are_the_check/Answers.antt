use Rattle.facl_answers.proofs.Deciding.{decided, decided_by_linux}
use Rattle.facl_answers.proofs.laws.deciding_entries_are_the_check.Goals as goal

pub returns-clause-by_check : goal.returns-clause-by_check
returns-clause-by_check c = λ q. decided c.args.subject.now c.args.label.now q c.entries-entries.ensures.valid

pub returns-clause-by_linux : goal.returns-clause-by_linux
returns-clause-by_linux c = λ q. decided_by_linux c.args.subject.now c.args.label.now q c.entries-entries.ensures.valid
