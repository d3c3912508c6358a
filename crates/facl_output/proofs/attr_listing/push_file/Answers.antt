use Rattle.std.proofs.Common.{arith, ◌≡◌, ◌++◌, ◌∷◌, [], codes, subst}
use Rattle.std.proofs.lemmas.Grind.{common_steps}
use Rattle.acl_text.specs.DumpWriting.{file_text}
use Rattle.acl_edit.specs.declared.node.Node.{Node}
use Rattle.facl_output.specs.Listings.{has_slash}
use Rattle.facl_output.specs.AttrListings.{attr_line, attr_lines, default_line}
use Rattle.facl_output.proofs.Parts.{two_parts, three_parts, begins_itself, begins_later, begins_more}
use Rattle.facl_output.proofs.attr_listing.push_file.Goals as goal

pub returns-in_err-push_default : goal.returns-in_err-push_default
returns-in_err-push_default c =
    let f = c.args.file.now in
    let n = c.node-node.result.now in
    let start = c.args.text.now.items in
    let after_path = begins_more start start (file_text f.path (has_slash f)) c.push_path.new.text.items (begins_itself start) c.in_ok-push_path.ensures in
    let after_line = begins_more start c.push_path.new.text.items (attr_line (codes "system.posix_acl_access") n.label.acl)
    c.push_line.new.text.items after_path c.in_ok-push_line.ensures in
    let begins = begins_later start c.push_line.new.text.items c.push_default.new.text.items after_line c.in_err-push_default.ensures in
    grind (arith, common_steps, begins)

pub returns-in_err-push : goal.returns-in_err-push
returns-in_err-push c =
    let f = c.args.file.now in
    let n = c.node-node.result.now in
    let start = c.args.text.now.items in
    let after_path = begins_more start start (file_text f.path (has_slash f)) c.push_path.new.text.items (begins_itself start) c.in_ok-push_path.ensures in
    let after_line = begins_more start c.push_path.new.text.items (attr_line (codes "system.posix_acl_access") n.label.acl)
    c.push_line.new.text.items after_path c.in_ok-push_line.ensures in
    let begins = begins_more start c.push_line.new.text.items (default_line n.dacl) c.push_default.new.text.items after_line c.in_ok-push_default.ensures in
    grind (arith, common_steps, begins)

pub returns : goal.returns
returns c =
    let f = c.args.file.now in
    let n = c.node-node.result.now in
    let head = file_text f.path (has_slash f) in
    let attributes = two_parts c.push_path.new.text.items (attr_line (codes "system.posix_acl_access") n.label.acl) (default_line n.dacl)
    c.push_line.new.text.items c.push_default.new.text.items c.in_ok-push_line.ensures c.in_ok-push_default.ensures in
    let parts = three_parts c.args.text.now.items head (attr_lines n) (10 ∷ []) c.push_path.new.text.items c.push_default.new.text.items c.push.new.self.items
    c.in_ok-push_path.ensures attributes c.in_ok-push.ensures.items in
    subst (λ (n : Node). c.push.new.self.items ≡ c.args.text.now.items ++ (head ++ (attr_lines n ++ 10 ∷ []))) c.node-node.ensures parts
