use Rattle.std.proofs.Common.{arith, ◌≡◌, ◌++◌, ◌∷◌, [], codes}
use Rattle.std.proofs.lemmas.Grind.{common_steps}
use Rattle.acl_names.proofs.Appended.{still_begins}
use Rattle.acl_entry.specs.Lists.{entries}
use Rattle.acl_text.specs.Writing.{short}
use Rattle.acl_text.proofs.Appending.{appends_both}
use Rattle.facl_output.specs.TestListing.{default_entries}
use Rattle.facl_output.proofs.Parts.{two_parts, appends_last}
use Rattle.facl_output.proofs.test_listing.push_after_path.Goals as goal

pub returns-in_err-push_default : goal.returns-in_err-push_default
returns-in_err-push_default g c =
    let start = c.args.text.now.items in
    let list = short (g.N.Names.naming c.args.names.now) (entries c.args.node.now.label.acl) in
    let front = c.append_short.new.text.items in
    let written : front ≡ start ++ (codes ": " ++ list) =
    two_parts start (codes ": ") list c.extend_from_slice.new.self.items front c.in_ok-extend_from_slice.ensures.items c.in_ok-append_short.ensures in
    let begins = still_begins start (codes ": " ++ list) front c.push_default.new.text.items written c.in_err-push_default.ensures in
    grind (arith, common_steps, begins)

pub returns : goal.returns
returns g c =
    let naming = g.N.Names.naming c.args.names.now in
    let n = c.args.node.now in
    let list = short naming (entries n.label.acl) in
    let defaults = default_entries naming n.dacl in
    let opened = c.extend_from_slice.new.self in
    let lists : c.push_default.new.text.items ≡ opened.items ++ (list ++ defaults) =
    two_parts opened.items list defaults c.append_short.new.text.items c.push_default.new.text.items c.in_ok-append_short.ensures c.in_ok-push_default.ensures in
    appends_both c.end_line.result c.args.text.now opened c.end_line.new.text (codes ": ") ((list ++ defaults) ++ 10 ∷ []) c.in_ok-extend_from_slice.ensures.items
    (appends_last c.end_line.result opened c.push_default.new.text c.end_line.new.text (list ++ defaults) (10 ∷ []) lists c.end_line.ensures)
