use Rattle.std.proofs.Common.{arith, ◌≡◌, ◌++◌, ◌∷◌, [], codes}
use Rattle.std.proofs.lemmas.Grind.{common_steps}
use Rattle.acl_names.proofs.Appended.{still_begins}
use Rattle.acl_entry.specs.Lists.{entries}
use Rattle.acl_text.specs.Writing.{short}
use Rattle.facl_output.specs.ChaclListings.{default_part}
use Rattle.facl_output.proofs.Parts.{two_parts, three_parts}
use Rattle.facl_output.proofs.chacl_listing.push_after_path.Goals as goal

pub returns-in_err-push_default : goal.returns-in_err-push_default
returns-in_err-push_default g c =
    let start = c.args.text.now.items in
    let list = short (g.N.Names.naming c.args.names.now) (entries c.args.node.now.label.acl) in
    let front = c.append_short.new.text.items in
    let written : front ≡ start ++ (codes " [" ++ list) =
    two_parts start (codes " [") list c.extend_from_slice.new.self.items front c.in_ok-extend_from_slice.ensures.items c.in_ok-append_short.ensures in
    let begins = still_begins start (codes " [" ++ list) front c.push_default.new.text.items written c.in_err-push_default.ensures in
    grind (arith, common_steps, begins)

pub returns : goal.returns
returns g c =
    let naming = g.N.Names.naming c.args.names.now in
    let start = c.args.text.now.items in
    let opened = c.extend_from_slice.new.self.items in
    let new = c.extend_from_slice-2.new.self.items in
    let n = c.args.node.now in
    let lists = short naming (entries n.label.acl) ++ (default_part naming n.dacl ++ 93 ∷ 10 ∷ []) in
    two_parts start (codes " [") lists opened new c.in_ok-extend_from_slice.ensures.items
    (three_parts opened (short naming (entries n.label.acl)) (default_part naming n.dacl) (93 ∷ 10 ∷ []) c.append_short.new.text.items c.push_default.new.text.items new
    c.in_ok-append_short.ensures c.in_ok-push_default.ensures c.in_ok-extend_from_slice-2.ensures.items)
