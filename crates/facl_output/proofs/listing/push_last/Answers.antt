use Rattle.std.proofs.Common.{◌∷◌, []}
use Rattle.facl_output.specs.Listings.{default_entries}
use Rattle.facl_output.proofs.Parts.{appends_last}
use Rattle.facl_output.proofs.listing.push_last.Goals as goal

pub returns : goal.returns
returns g c =
    appends_last c.end_line.result c.args.text.now c.push_default.new.text c.end_line.new.text (default_entries (g.N.Names.naming c.args.names.now) c.args.options.now c.args.node.now) (10 ∷ [])
    c.in_ok-push_default.ensures c.end_line.ensures
