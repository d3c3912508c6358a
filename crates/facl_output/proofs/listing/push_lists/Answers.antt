use Rattle.std.proofs.Common.{◌++◌, ◌∷◌, []}
use Rattle.acl_text.specs.declared.fault.Which.TheVariants.{Access}
use Rattle.acl_text.specs.DumpWriting.{list_text}
use Rattle.facl_output.specs.Listings.{default_entries}
use Rattle.acl_text.proofs.Appending.{appends_both}
use Rattle.facl_output.proofs.listing.push_lists.Goals as goal

pub returns : goal.returns
returns g c =
    let naming = g.N.Names.naming c.args.names.now in
    let options = c.args.options.now in
    let node = c.args.node.now in
    appends_both c.push_last.result c.args.text.now c.append_list.new.text c.push_last.new.text (list_text naming options.effective Access node.label.acl)
    (default_entries naming options node ++ 10 ∷ [])
    c.in_ok-append_list.ensures c.push_last.ensures
