use Rattle.facl_tools.proofs.RoundTrips.{set_again}
use Rattle.facl_tools.proofs.round_trips.set_reads_what_test_prints.Goals as goal

pub returns : goal.returns
returns c = set_again c.args.people.now c.args.tree.now.files c.lists_are_read_again.ensures
