use Rattle.acl_tree.proofs.Each.{edit_each_file, restore_each_file}
use Rattle.acl_tree.proofs.MasksEach.{masks_each}
use Rattle.acl_tree.proofs.laws.each_file_is_edited.Goals as goal

pub returns-clause-edit : goal.returns-clause-edit
returns-clause-edit c = edit_each_file

pub returns-clause-restore : goal.returns-clause-restore
returns-clause-restore c = restore_each_file

pub returns-clause-masks : goal.returns-clause-masks
returns-clause-masks c = masks_each
