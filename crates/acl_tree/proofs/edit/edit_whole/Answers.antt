use Rattle.std.proofs.Common.{◌≡◌, Ok, sym, ap, subst, ◌∙◌}
use Rattle.acl_edit.specs.declared.node.Node.{Node}
use Rattle.kinds.specs.Numbered.{Kept, entries_in}
use Rattle.acl_tree.specs.Files.{Recorded}
use Rattle.acl_tree.specs.Sound.{IsSoundTree}
use Rattle.acl_tree.specs.Operands.{files_meant}
use Rattle.acl_tree.proofs.ByKind.{all_meant, edited_all, sound_edited}
use Rattle.acl_tree.proofs.edit.edit_whole.Goals as goal

pub of-requires : goal.of-requires
of-requires g c =
    let edit = g.E.NodeEdit.edited c.args.edit.now in
    let r = c.args.region.now.0 in
    let paths = c.args.region.now.1 in
    let kept : Kept Node = c.files_by_path-files.result.now in
    let meant : kept.1 ≡ files_meant r paths kept.1 = all_meant r paths c.requires kept.1 in
    let new : Kept Node = c.in_ok-map.map in
    subst (λ b. IsSoundTree (record { files = entries_in new; loaded = b })) (sym c.is_loaded.ensures)
    (sound_edited edit r paths kept.0 kept.1 c.args.tree.now c.kinds-sound.ensures.sound c.files_by_path-files.ensures.all kept.1 meant new kept.1
    c.in_ok-map.ensures.made c.in_ok-map.ensures.put c.files_by_path-files.ensures.sound.order c.keeps_place.ensures c.files_by_path-files.ensures.sound)

pub returns : goal.returns
returns g c =
    let edit = g.E.NodeEdit.edited c.args.edit.now in
    let r = c.args.region.now.0 in
    let paths = c.args.region.now.1 in
    let kept : Kept Node = c.files_by_path-files.result.now in
    let meant : kept.1 ≡ files_meant r paths kept.1 = all_meant r paths c.requires kept.1 in
    let new : Kept Node = c.in_ok-map.map in
    edited_all edit r paths kept.0 kept.1 c.args.tree.now c.kinds-sound.ensures.sound c.files_by_path-files.ensures.all kept.1 meant new kept.1
    c.in_ok-map.ensures.made c.in_ok-map.ensures.put c.files_by_path-files.ensures.sound.order
    ∙ ap (λ (t : Recorded). Ok t) (sym (c.of.ensures ∙ (λ i. record { files = entries_in new; loaded = c.is_loaded.ensures i })))
