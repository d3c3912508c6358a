use Rattle.facl_answers.proofs.DecidedAlong.{decided_by_check, decided_under_linux}
use Rattle.facl_answers.proofs.laws.deciding_entries_are_the_reach.Goals as goal

pub returns-clause-by_check : goal.returns-clause-by_check
returns-clause-by_check c = decided_by_check c.args.subject.now c.args.tree.now.files c.soundness_law.ensures.order c.lists_are_valid.ensures

pub returns-clause-by_linux : goal.returns-clause-by_linux
returns-clause-by_linux c = decided_under_linux c.args.subject.now c.args.tree.now.files c.soundness_law.ensures.order c.lists_are_valid.ensures
