use Rattle.facl_tools.proofs.RoundTrips.{setattr_again}
use Rattle.facl_tools.proofs.round_trips.setattr_reads_what_attr_prints.Goals as goal

pub returns : goal.returns
returns c = setattr_again c.args.tree.now.files c.args.tree.now.files c.soundness_law.ensures.placed c.attributes_are_read_again.ensures
