use Rattle.acl_text.proofs.Means.{means_spec}
use Rattle.acl_text.proofs.laws.entry_means_what_is_read.Goals as goal

pub returns : goal.returns
returns c = means_spec
