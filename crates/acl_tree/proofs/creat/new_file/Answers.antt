use Rattle.std.proofs.Common.{◌<◌, length, arith, ap, sym, subst, ◌∙◌}
use Rattle.acl_edit.specs.Nodes.{IsSound}
use Rattle.acl_tree.specs.Files.{Files, max_files}
use Rattle.acl_tree.proofs.NewFiles.{made_new, is_new}
use Rattle.acl_tree.proofs.creat.new_file.Goals as goal

pub returns-clause-made : goal.returns-clause-made
returns-clause-made c =
    let t = c.args.tree.now in
    let room : length t.files < max_files = omega (arith, c.if-len-ge-MAX_FILES.false, c.len.ensures, ap (λ (es : Files). length es) c.files_by_path.ensures.all) in
    made_new c.args.new.now c.args.owner.now t c.in_ok-directory.directory.now (c.args.new.now.path, c.in_ok-node_of.field-0)
    (sym c.exists.ensures ∙ c.if-exists.false)
    c.in_ok-directory.ensures
    room
    (λ i. (c.args.new.now.path, c.in_ok-node_of.ensures.made i))

pub returns-clause-fits : goal.returns-clause-fits
returns-clause-fits c =
    let t = c.args.tree.now in
    let room : length t.files < max_files = omega (arith, c.if-len-ge-MAX_FILES.false, c.len.ensures, ap (λ (es : Files). length es) c.files_by_path.ensures.all) in
    is_new c.args.new.now c.args.owner.now t c.in_ok-directory.directory.now (c.args.new.now.path, c.in_ok-node_of.field-0)
    (sym c.exists.ensures ∙ c.if-exists.false)
    c.in_ok-directory.ensures
    room
    (λ i. (c.args.new.now.path, c.in_ok-node_of.ensures.made i))
    (subst IsSound c.in_ok-node_of.ensures.made c.in_ok-node_of.ensures.sound)
