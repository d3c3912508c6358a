use Rattle.acl_edit.proofs.Refused.{misplaced, refused_lines, refuses_no_list, takes_no_memory}
use Rattle.acl_edit.proofs.laws.edits_are_refused_for_their_lists.Goals as goal

pub returns-clause-misplaced : goal.returns-clause-misplaced
returns-clause-misplaced c = λ n e r. misplaced n e r

pub returns-clause-lists : goal.returns-clause-lists
returns-clause-lists c = λ n e r. refused_lines n e r

pub returns-clause-whole : goal.returns-clause-whole
returns-clause-whole c = λ n e r. refuses_no_list n e r

pub returns-clause-memory : goal.returns-clause-memory
returns-clause-memory c = λ n e r. takes_no_memory n e r
