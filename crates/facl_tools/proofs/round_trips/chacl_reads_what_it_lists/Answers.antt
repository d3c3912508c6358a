use Rattle.facl_tools.proofs.RoundTrips.{chacl_again}
use Rattle.facl_tools.proofs.round_trips.chacl_reads_what_it_lists.Goals as goal

pub returns : goal.returns
returns c = chacl_again c.args.people.now c.args.tree.now.files c.args.tree.now.files c.soundness_law.ensures.placed c.lists_are_read_again.ensures
