use Rattle.std.proofs.Common.{subst}
use Rattle.acl_edit.specs.declared.node.Node.{Node}
use Rattle.acl_names.specs.Appends.{Appends}
use Rattle.facl_output.specs.Listings.{entry_lines, headers}
use Rattle.acl_text.proofs.Appending.{appends_both}
use Rattle.facl_output.proofs.listing.push_record.Goals as goal

pub returns : goal.returns
returns g c =
    let naming = g.N.Names.naming c.args.names.now in
    let lines = entry_lines naming c.args.options.now in
    appends_both c.push_lists.result c.args.text.now c.push_headers.new.text c.push_lists.new.text (headers naming c.args.options.now c.args.file.now) (lines c.args.file.now.node)
    c.in_ok-push_headers.ensures (subst (λ (n : Node). Appends c.push_lists.result c.push_headers.new.text c.push_lists.new.text (lines n)) c.node.ensures c.push_lists.ensures)
