use Rattle.facl_output.proofs.AttributeRoundTrips.{attributes_again}
use Rattle.facl_output.proofs.laws.attributes_are_read_again.Goals as goal

pub returns : goal.returns
returns c = attributes_again c.args.people.now c.args.tree.now.files c.files_are_read_again.ensures
