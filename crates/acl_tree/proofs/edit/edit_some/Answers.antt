use Rattle.std.proofs.Common.{◌≡◌, Ok, map, sym, ap, subst, ◌∙◌}
use Rattle.std.proofs.lemmas.Result.{err_from_is_err_and}
use Rattle.acl_edit.specs.declared.node.Node.{Node}
use Rattle.path_map.specs.Entries.{seen}
use Rattle.kinds.specs.Numbered.{Numbers, Kept, entries_in}
use Rattle.acl_tree.specs.Files.{Recorded}
use Rattle.acl_tree.specs.Sound.{IsSoundTree}
use Rattle.acl_tree.specs.Operands.{files_meant}
use Rattle.acl_tree.proofs.ByKind.{asked_order, asked_among, stops_for, edited_all, sound_edited}
use Rattle.acl_tree.proofs.edit.edit_some.Goals as goal

pub edited-requires-clause-order : goal.edited-requires-clause-order
edited-requires-clause-order g c =
    let edit = g.E.NodeEdit.edited c.args.edit.now in
    let r = c.args.region.now.0 in
    let paths = c.args.region.now.1 in
    let kept : Kept Node = c.files_by_path-files.result.now in
    let meant : map seen c.deref.result.now ≡ files_meant r paths kept.1 = ap (λ l. map seen l) c.deref.ensures.value ∙ c.in_ok-entries.ensures
    ∙ ap (λ (l : Numbers). files_meant r paths l) c.numbers.ensures.all in
    asked_order edit r paths kept.0 kept.1 c.args.tree.now c.numbers.ensures.sound c.files_by_path-files.ensures.all (map seen c.deref.result.now) meant

pub edited-requires-clause-among : goal.edited-requires-clause-among
edited-requires-clause-among g c =
    let edit = g.E.NodeEdit.edited c.args.edit.now in
    let r = c.args.region.now.0 in
    let paths = c.args.region.now.1 in
    let kept : Kept Node = c.files_by_path-files.result.now in
    let meant : map seen c.deref.result.now ≡ files_meant r paths kept.1 = ap (λ l. map seen l) c.deref.ensures.value ∙ c.in_ok-entries.ensures
    ∙ ap (λ (l : Numbers). files_meant r paths l) c.numbers.ensures.all in
    asked_among edit r paths kept.0 kept.1 c.args.tree.now c.numbers.ensures.sound c.files_by_path-files.ensures.all (map seen c.deref.result.now) meant

pub returns-in_err-edited : goal.returns-in_err-edited
returns-in_err-edited g c =
    let edit = g.E.NodeEdit.edited c.args.edit.now in
    let r = c.args.region.now.0 in
    let paths = c.args.region.now.1 in
    let kept : Kept Node = c.files_by_path-files.result.now in
    let meant : map seen c.deref.result.now ≡ files_meant r paths kept.1 = ap (λ l. map seen l) c.deref.ensures.value ∙ c.in_ok-entries.ensures
    ∙ ap (λ (l : Numbers). files_meant r paths l) c.numbers.ensures.all in
    let p = err_from_is_err_and c.from_residual-in_err-edited.result c.from_residual-in_err-edited.ensures.1 in
    rw (p.1, p.2) (stops_for edit r paths kept.0 kept.1 c.args.tree.now c.numbers.ensures.sound c.files_by_path-files.ensures.all
    (map seen c.deref.result.now) meant c.in_err-edited.field-0.0 c.in_err-edited.ensures.made)

pub of-requires : goal.of-requires
of-requires g c =
    let edit = g.E.NodeEdit.edited c.args.edit.now in
    let r = c.args.region.now.0 in
    let paths = c.args.region.now.1 in
    let kept : Kept Node = c.files_by_path-files.result.now in
    let meant : map seen c.deref.result.now ≡ files_meant r paths kept.1 = ap (λ l. map seen l) c.deref.ensures.value ∙ c.in_ok-entries.ensures
    ∙ ap (λ (l : Numbers). files_meant r paths l) c.numbers.ensures.all in
    let new : Kept Node = c.in_ok-edited.edited.map in
    let puts : Numbers = map seen c.in_ok-edited.edited.entries.items in
    subst (λ b. IsSoundTree (record { files = entries_in new; loaded = b })) (sym c.is_loaded.ensures)
    (sound_edited edit r paths kept.0 kept.1 c.args.tree.now c.numbers.ensures.sound c.files_by_path-files.ensures.all
    (map seen c.deref.result.now) meant new puts c.in_ok-edited.ensures.made c.in_ok-edited.ensures.put c.files_by_path-files.ensures.sound.order
    c.keeps_place.ensures c.files_by_path-files.ensures.sound)

pub returns : goal.returns
returns g c =
    let edit = g.E.NodeEdit.edited c.args.edit.now in
    let r = c.args.region.now.0 in
    let paths = c.args.region.now.1 in
    let kept : Kept Node = c.files_by_path-files.result.now in
    let meant : map seen c.deref.result.now ≡ files_meant r paths kept.1 = ap (λ l. map seen l) c.deref.ensures.value ∙ c.in_ok-entries.ensures
    ∙ ap (λ (l : Numbers). files_meant r paths l) c.numbers.ensures.all in
    let new : Kept Node = c.in_ok-edited.edited.map in
    let puts : Numbers = map seen c.in_ok-edited.edited.entries.items in
    edited_all edit r paths kept.0 kept.1 c.args.tree.now c.numbers.ensures.sound c.files_by_path-files.ensures.all
    (map seen c.deref.result.now) meant new puts c.in_ok-edited.ensures.made c.in_ok-edited.ensures.put c.files_by_path-files.ensures.sound.order
    ∙ ap (λ (t : Recorded). Ok t) (sym (c.of.ensures ∙ (λ i. record { files = entries_in new; loaded = c.is_loaded.ensures i })))
