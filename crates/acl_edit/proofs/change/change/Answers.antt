use Rattle.acl_edit.proofs.Lines.{leaves_unnamed, shows_recalculated, bounds_recalculated, keeps_granted, gives_modified, goes_by_key, leaves_by_key}
use Rattle.acl_edit.proofs.Lines.{copies_base, makes_mask, drops_default, stays_sound}
use Rattle.std.proofs.Common.{sym, subst}
use Rattle.acl_edit.specs.Nodes.{IsSound}
use Rattle.acl_edit.specs.Laws.{IsLeft}
use Rattle.acl_edit.proofs.change.change.Goals as goal

pub returns-clause-left : goal.returns-clause-left
returns-clause-left c =
    let old = c.args.node.now in
    let line = c.args.line.now in
    let acl = c.in_ok-acl.acl in
    let dacl = c.in_ok-dacl.dacl in
    let access = c.in_ok-acl.ensures.made in
    let default = c.in_ok-dacl.ensures.made in
    subst (IsLeft old line) (sym c.with_lists.ensures) (record {
      unnamed = leaves_unnamed old line acl dacl access default c.lists_are_valid.ensures;
      shown = shows_recalculated old line acl dacl access default;
      bounded = bounds_recalculated old line acl dacl access default;
      granted = keeps_granted old line acl dacl access default;
      modified = gives_modified old line acl dacl access default;
      by_key = goes_by_key old line acl dacl access default;
      every_key = leaves_by_key old line acl dacl access default;
      copied = copies_base old line acl dacl access default;
      masked = makes_mask old line acl dacl access default;
      dropped = drops_default old line acl dacl access default;
    })

pub returns-clause-sound : goal.returns-clause-sound
returns-clause-sound c = λ sound.
    subst IsSound (sym c.with_lists.ensures)
    (stays_sound c.args.node.now c.args.line.now c.in_ok-acl.acl c.in_ok-dacl.dacl c.in_ok-acl.ensures.made c.in_ok-dacl.ensures.made sound)
