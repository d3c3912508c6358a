use Rattle.std.proofs.Common.{rules, ◌≡◌, Err, arith}
use Rattle.acl_edit.specs.Edits as edits
use Rattle.acl_edit.specs.declared.edit.EditFault.TheVariants.{DefaultOnFile}
use Rattle.acl_edit.proofs.Refused.{misplaces}
use Rattle.acl_edit.proofs.edit.apply.Goals as goal

pub returns-in_err-edited-in-Change-clause-misplaced : goal.returns-in_err-edited-in-Change-clause-misplaced
returns-in_err-edited-in-Change-clause-misplaced c = λ h.
    let refused : edits.edit c.args.node.now c.args.edit.now c.args.in_recursion ≡ Err DefaultOnFile = misplaces c.args.node.now c.args.edit.now c.args.in_recursion h in
    search rules

pub returns-in_err-edited-in-Put-clause-misplaced : goal.returns-in_err-edited-in-Put-clause-misplaced
returns-in_err-edited-in-Put-clause-misplaced c = λ h.
    let refused : edits.edit c.args.node.now c.args.edit.now c.args.in_recursion ≡ Err DefaultOnFile = misplaces c.args.node.now c.args.edit.now c.args.in_recursion h in
    search rules

pub returns-in_err-edited-in-Restore-clause-misplaced : goal.returns-in_err-edited-in-Restore-clause-misplaced
returns-in_err-edited-in-Restore-clause-misplaced c = λ h.
    let refused : edits.edit c.args.node.now c.args.edit.now c.args.in_recursion ≡ Err DefaultOnFile = misplaces c.args.node.now c.args.edit.now c.args.in_recursion h in
    search rules

pub returns-clause-misplaced : goal.returns-clause-misplaced
returns-clause-misplaced c = λ h.
    let refused : edits.edit c.args.node.now c.args.edit.now c.args.in_recursion ≡ Err DefaultOnFile = misplaces c.args.node.now c.args.edit.now c.args.in_recursion h in
    search rules

pub returns-clause-sound : goal.returns-clause-sound
returns-clause-sound c = grind arith
