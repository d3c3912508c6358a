use Rattle.std.proofs.Common.{◌∙◌, ◌++◌, ap, sym, Ok}
use Rattle.acl_tree.specs.Found.{files_found}
use Rattle.facl_tools.specs.Setfacl.{named_test_listing}
use Rattle.acl_tree.specs.Files.{Recorded}
use Rattle.facl_tools.proofs.tested.listed.Goals as goal

pub returns : goal.returns
returns c =
    let selection = c.args.selection.now in
    let files = c.in_ok-files.ensures.0 ∙ ap (λ (t : Recorded). files_found selection.recursive selection.operands.now t.files) c.tree.ensures in
    ap (λ out. Ok out) (sym (c.in_ok-append_test_listing.ensures ∙ (λ i. c.new-out.ensures.items i ++ named_test_listing (c.people.ensures i) ((c.deref.ensures.value ∙ files) i))))
