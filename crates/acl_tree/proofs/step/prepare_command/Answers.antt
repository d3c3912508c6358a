use Rattle.std.proofs.Common.{sym, subst}
use Rattle.acl_tree.specs.declared.selection.Selection.{Selection}
use Rattle.acl_tree.specs.declared.command.Command.TheVariants as commands
use Rattle.acl_tree.specs.InnerCommands.{whole}
use Rattle.acl_tree.specs.Reports.{Prepares, RefusesAtOnce}
use Rattle.acl_tree.proofs.AtOnce.{loaded_at_once}
use Rattle.acl_tree.proofs.step.prepare_command.Goals as goal

pub returns-in-Load-clause-prepares : goal.returns-in-Load-clause-prepares
returns-in-Load-clause-prepares c = subst (λ command. Prepares (whole c.args.state.now) command c.prepare_load.result) (sym c.in-Load.is) c.prepare_load.ensures.prepares

pub returns-in-Load-clause-at_once : goal.returns-in-Load-clause-at_once
returns-in-Load-clause-at_once c = subst (λ command. RefusesAtOnce (whole c.args.state.now) command c.prepare_load.result) (sym c.in-Load.is)
    (loaded_at_once _ c.prepare_load.result c.prepare_load.ensures.loaded)

pub returns-in-Gpasswd-clause-at_once : goal.returns-in-Gpasswd-clause-at_once
returns-in-Gpasswd-clause-at_once c = subst (λ command. RefusesAtOnce (whole c.args.state.now) command c.prepare_gpasswd.result) (sym c.in-Gpasswd.is) c.prepare_gpasswd.ensures.at_once

pub returns-in-Useradd-clause-at_once : goal.returns-in-Useradd-clause-at_once
returns-in-Useradd-clause-at_once c = subst (λ command. RefusesAtOnce (whole c.args.state.now) command c.prepare_useradd.result) (sym c.in-Useradd.is) c.prepare_useradd.ensures.at_once

pub returns-in-Chmod-clause-prepares : goal.returns-in-Chmod-clause-prepares
returns-in-Chmod-clause-prepares c = subst (λ command. Prepares (whole c.args.state.now) command c.prepare_chmod.result) (sym c.in-Chmod.is)
    (subst (λ (files : Selection). Prepares (whole c.args.state.now)
    (commands.Chmod files.operands.now c.in-Chmod.mode files.recursive) c.prepare_chmod.result) c.selection_of.ensures c.prepare_chmod.ensures)

pub returns-in-Edit-clause-prepares : goal.returns-in-Edit-clause-prepares
returns-in-Edit-clause-prepares c = subst (λ command. Prepares (whole c.args.state.now) command c.prepare_edit.result) (sym c.in-Edit.is)
    (subst (λ (files : Selection). Prepares (whole c.args.state.now)
    (commands.Edit files.operands.now c.in-Edit.edit files.recursive) c.prepare_edit.result) c.selection_of-in-Edit.ensures c.prepare_edit.ensures)

pub returns-in-Restore-clause-prepares : goal.returns-in-Restore-clause-prepares
returns-in-Restore-clause-prepares c = subst (λ command. Prepares (whole c.args.state.now) command c.prepare_restore.result) (sym c.in-Restore.is) c.prepare_restore.ensures

pub returns-in-Creat-clause-prepares : goal.returns-in-Creat-clause-prepares
returns-in-Creat-clause-prepares c = subst (λ command. Prepares (whole c.args.state.now) command c.prepare_creat.result) (sym c.in-Creat.is) c.prepare_creat.ensures

pub returns-in-Rm-clause-prepares : goal.returns-in-Rm-clause-prepares
returns-in-Rm-clause-prepares c = subst (λ command. Prepares (whole c.args.state.now) command c.prepare_rm.result) (sym c.in-Rm.is)
    (subst (λ (files : Selection). Prepares (whole c.args.state.now) (commands.Rm files.operands.now files.recursive) c.prepare_rm.result) c.selection_of-in-Rm.ensures c.prepare_rm.ensures)

pub returns-in-Gpasswd-clause-prepares : goal.returns-in-Gpasswd-clause-prepares
returns-in-Gpasswd-clause-prepares c = subst (λ command. Prepares (whole c.args.state.now) command c.prepare_gpasswd.result) (sym c.in-Gpasswd.is) c.prepare_gpasswd.ensures.prepares

pub returns-in-Usermod-clause-prepares : goal.returns-in-Usermod-clause-prepares
returns-in-Usermod-clause-prepares c = subst (λ command. Prepares (whole c.args.state.now) command c.prepare_usermod.result) (sym c.in-Usermod.is) c.prepare_usermod.ensures

pub returns-in-Useradd-clause-prepares : goal.returns-in-Useradd-clause-prepares
returns-in-Useradd-clause-prepares c = subst (λ command. Prepares (whole c.args.state.now) command c.prepare_useradd.result) (sym c.in-Useradd.is) c.prepare_useradd.ensures.prepares

pub returns-in-Userdel-clause-prepares : goal.returns-in-Userdel-clause-prepares
returns-in-Userdel-clause-prepares c = subst (λ command. Prepares (whole c.args.state.now) command c.prepare_userdel.result) (sym c.in-Userdel.is) c.prepare_userdel.ensures
