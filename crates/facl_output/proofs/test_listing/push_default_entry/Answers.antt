use Rattle.std.proofs.Common.{codes}
use Rattle.acl_text.specs.Writing.{entry_text}
use Rattle.acl_text.specs.declared.entries.Form.TheVariants.{Short}
use Rattle.facl_output.proofs.Parts.{appends_last}
use Rattle.facl_output.proofs.test_listing.push_default_entry.Goals as goal

pub returns : goal.returns
returns g c =
    appends_last c.append_entry.result c.args.text.now c.extend_from_slice.new.self c.append_entry.new.text (codes ",d:") (entry_text (g.N.Names.naming c.args.names.now) Short c.args.entry.now)
    c.in_ok-extend_from_slice.ensures.items c.append_entry.ensures
