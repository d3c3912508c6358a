use Rattle.std.proofs.Common.{sym}
use Rattle.acl_entry.proofs.Placed.{find_at, find_gap}
use Rattle.acl_entry.proofs.draft.perm_of.Goals as goal

pub returns-in-Ok : goal.returns-in-Ok
returns-in-Ok c = sym (find_at c.args.entries.now c.requires c.args.key.now c.in-Ok.at c.in-Ok.ensures.found c.index-entries-at.result)

pub returns-in-Err : goal.returns-in-Err
returns-in-Err c = sym (find_gap _ _ _ c.in-Err.ensures.absent)
