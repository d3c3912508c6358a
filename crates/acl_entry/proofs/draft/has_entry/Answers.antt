use Rattle.std.proofs.Common.{sym, ap, is_some, ◌∙◌}
use Rattle.acl_entry.proofs.Faults.{is_among-keys}
use Rattle.acl_entry.proofs.draft.has_entry.Goals as goal

pub returns : goal.returns
returns c = c.is_some.ensures ∙ ap is_some c.perm_of.ensures ∙ sym (is_among-keys c.args.key.now c.args.sorted.now)
